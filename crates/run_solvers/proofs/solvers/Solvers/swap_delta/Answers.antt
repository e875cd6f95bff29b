-- The value is a system or an objective, or nothing is asked.
use Rattle.std.proofs.Common.{[], ◌∷◌, None, Some, sym, ◌∙◌, subst}
use Rattle.model_values.specs.declared.deltas.Move.TheVariants.{Swap}
use Rattle.comet_meaning.specs.Outcome.{Outcome}
use Rattle.comet_meaning.specs.Systems.{delta}
use Rattle.comet_meaning.specs.Values as values
use Rattle.run_values.specs.Did.{Did}
use Rattle.run_values.specs.Views.{value_seen}
use Rattle.run_solvers.proofs.AskingLaws.{done_so}
use Rattle.run_solvers.proofs.solvers.Solvers.swap_delta.Goals as goal

pub returns-in-None-clause-did : goal.returns-in-None-clause-did
returns-in-None-clause-did g c = λ s is. done_so (delta c.args.at (c.args.x ∷ c.args.y ∷ []) (Swap c.args.x.index c.args.y.index)) (value_seen c.args.whole.now) None s (sym c.in-None.is ∙ c.total_of.ensures)

pub returns-in-Some-clause-did : goal.returns-in-Some-clause-did
returns-in-Some-clause-did g c = λ s is.
    subst (λ (o : Outcome values.Value). Did value_seen c.total_swapped.result s o)
    (sym (done_so (delta c.args.at (c.args.x ∷ c.args.y ∷ []) (Swap c.args.x.index c.args.y.index)) (value_seen c.args.whole.now) (Some c.in-Some.total) s (sym c.in-Some.is ∙ c.total_of.ensures))) (c.total_swapped.ensures.did s is)
