-- The parts of a constraint.
use Rattle.std.proofs.Common.{◌≡◌, ap, true, false, Bool, if◌then◌else◌}
use Rattle.checked_tree.specs.declared.expressions.Typed.{Typed}
use Rattle.comet_meaning.specs.State.{State}
use Rattle.comet_meaning.specs.Outcome.{give, ◌>>=◌}
use Rattle.comet_meaning.specs.Levels.{Level}
use Rattle.comet_meaning.specs.Parts.{truth, term, constraint, broken}
use Rattle.run_steps.specs.Views.{part}

-- a part of a constraint, by whether it holds incremental variables

pub constraint_moves : (l : Level) (e : Typed) (s : State) → e.moving ≡ true → constraint l (part e) s ≡ term l (part e) s
unfolding constraint
constraint_moves l e s h = ap (λ (b : Bool). (if b then term l (part e) else (truth l (part e) >>= λ held. give (broken held))) s) h

pub constraint_stays : (l : Level) (e : Typed) (s : State) → e.moving ≡ false → constraint l (part e) s ≡ (truth l (part e) >>= λ held. give (broken held)) s
unfolding constraint
constraint_stays l e s h = ap (λ (b : Bool). (if b then term l (part e) else (truth l (part e) >>= λ held. give (broken held))) s) h
