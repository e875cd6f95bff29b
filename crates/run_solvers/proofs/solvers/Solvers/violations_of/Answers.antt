-- The value is a system or an objective, or nothing is asked.
use Rattle.std.proofs.Common.{None, Some, sym, ◌∙◌, subst}
use Rattle.comet_meaning.specs.Outcome.{Outcome}
use Rattle.comet_meaning.specs.Systems.{variable_violations}
use Rattle.comet_meaning.specs.Values as values
use Rattle.run_values.specs.Did.{Did}
use Rattle.run_values.specs.Views.{value_seen}
use Rattle.run_solvers.proofs.AskingLaws.{done_so}
use Rattle.run_solvers.proofs.solvers.Solvers.violations_of.Goals as goal

pub returns-in-None-clause-did : goal.returns-in-None-clause-did
returns-in-None-clause-did g c = λ s is. done_so (variable_violations c.args.at c.args.x) (value_seen c.args.whole.now) None s (sym c.in-None.is ∙ c.total_of.ensures)

pub returns-in-Some-clause-did : goal.returns-in-Some-clause-did
returns-in-Some-clause-did g c = λ s is.
    subst (λ (o : Outcome values.Value). Did value_seen c.total_violations.result s o)
    (sym (done_so (variable_violations c.args.at c.args.x) (value_seen c.args.whole.now) (Some c.in-Some.total) s (sym c.in-Some.is ∙ c.total_of.ensures))) (c.total_violations.ensures.did s is)
