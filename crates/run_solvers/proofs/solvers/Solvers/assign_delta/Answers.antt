-- The value is a system or an objective, or nothing is asked.
use Rattle.std.proofs.Common.{◌≡◌, ℤ, [], ◌∷◌, None, Some, sym, ◌∙◌, subst, w64, to_z, of_z, rules}
use Rattle.ls_solver.specs.Totals.{whole_of}
use Rattle.model_values.specs.declared.deltas.Move.TheVariants.{Assign}
use Rattle.comet_meaning.specs.Outcome.{Outcome}
use Rattle.comet_meaning.specs.Systems.{delta}
use Rattle.comet_meaning.specs.Values as values
use Rattle.run_values.specs.Did.{Did}
use Rattle.run_values.specs.Views.{value_seen}
use Rattle.run_solvers.proofs.AskingLaws.{done_so}
use Rattle.run_solvers.proofs.solvers.Solvers.assign_delta.Goals as goal

pub returns-in-None-clause-did : goal.returns-in-None-clause-did
returns-in-None-clause-did g c = λ s is. done_so (delta c.args.at (c.args.x ∷ []) (Assign c.args.x.index c.args.number)) (value_seen c.args.whole.now) None s (sym c.in-None.is ∙ c.total_of.ensures)

pub returns-in-Some-clause-did : goal.returns-in-Some-clause-did
returns-in-Some-clause-did g c = λ s is.
    let same : to_z w64 (of_z w64 c.args.number) ≡ c.args.number = search rules in
    subst (λ (o : Outcome values.Value). Did value_seen c.total_assigned.result s o)
    (sym (done_so (delta c.args.at (c.args.x ∷ []) (Assign c.args.x.index c.args.number)) (value_seen c.args.whole.now) (Some c.in-Some.total) s (sym c.in-Some.is ∙ c.total_of.ensures)))
    (subst (λ (z : ℤ). Did value_seen c.total_assigned.result s (delta c.args.at (c.args.x ∷ []) (Assign c.args.x.index z) c.in-Some.total.solver (whole_of c.in-Some.total) s)) same (c.total_assigned.ensures.did s is))
