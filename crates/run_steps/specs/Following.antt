-- What is done behind a part of a program: the part's answer comes in as it is, and an end of the run passes on. A rule
-- of this project.
use Rattle.std.specs.Prelude.{Result}
use Rattle.comet_meaning.specs.State.{State}
use Rattle.comet_meaning.specs.Outcome.{Outcome, Act, then_do}
use Rattle.run_values.specs.declared.stop.Stop.{Stop}
use Rattle.run_steps.specs.Does.{Does}

-- where a part answered `before` in the state `s`, the part with `f` behind it answers `after` in the state `t`
abbrev pub Follows : {X Y A B : Type 0} → (X → A) → (Y → B) → Result X Stop → Result Y Stop → State → State → (A → Act B) → Type 0
Follows {A = A} view next before after s t f = (o : Outcome A) → Does view before s o → Does next after t (then_do o f)
