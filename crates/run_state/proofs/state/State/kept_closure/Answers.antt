-- What the move is that is kept, where one is.
use Rattle.std.proofs.Common.{Some, ap, ◌∙◌}
use Rattle.std.specs.Prelude.{option_map}
use Rattle.comet_meaning.specs.Search.{Closure, KeptMove}
use Rattle.run_state.proofs.state.State.kept_closure.Goals as goal

pub returns-in_ok-closure-in-Some-clause-kept : goal.returns-in_ok-closure-in-Some-clause-kept
returns-in_ok-closure-in-Some-clause-kept c = λ printed. ap (λ (x : Closure). Some x) c.in_ok-closure-in-Some.ensures.same ∙ ap (option_map (λ (m : KeptMove). m.closure)) (c.in-Some.ensures printed)

pub returns-in-None-clause-kept : goal.returns-in-None-clause-kept
returns-in-None-clause-kept c = λ printed. ap (option_map (λ (m : KeptMove). m.closure)) (c.in-None.ensures printed)
