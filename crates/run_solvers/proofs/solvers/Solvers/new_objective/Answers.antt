-- The solver is that of the term's first variable.
use Rattle.std.proofs.Common.{None, Some, sym, ◌∙◌, subst}
use Rattle.comet_meaning.specs.Outcome.{Outcome}
use Rattle.comet_meaning.specs.Values as values
use Rattle.run_values.specs.Did.{Did}
use Rattle.run_values.specs.Views.{value_seen}
use Rattle.run_solvers.proofs.TotalActs.{by_first}
use Rattle.run_solvers.proofs.solvers.Solvers.new_objective.Goals as goal

pub returns-in-None-clause-did : goal.returns-in-None-clause-did
returns-in-None-clause-did g c = λ s is. by_first c.args.at c.args.built None s (sym c.in-None.is ∙ c.first_variable.ensures)

pub returns-in-Some-clause-did : goal.returns-in-Some-clause-did
returns-in-Some-clause-did g c = λ s is.
    subst (λ (o : Outcome values.Value). Did value_seen c.objective_in.result (record s { solvers = c.objective_in.new.self }) o)
    (sym (by_first c.args.at c.args.built (Some c.in-Some.variable) s (sym c.in-Some.is ∙ c.first_variable.ensures))) (c.objective_in.ensures.did s is)
