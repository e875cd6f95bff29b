-- The solver's reply is the answer.
use Rattle.std.proofs.Common.{sym, ◌∙◌, subst}
use Rattle.comet_meaning.specs.Outcome.{Outcome}
use Rattle.comet_meaning.specs.Values as values
use Rattle.run_values.specs.Did.{Did}
use Rattle.run_values.specs.Views.{value_seen}
use Rattle.run_solvers.specs.Views.{waits}
use Rattle.run_solvers.proofs.AskingLaws.{asks_violations}
use Rattle.run_solvers.proofs.held.Held.system_violations.Goals as goal

pub var_violations-requires : goal.var_violations-requires
var_violations-requires g c = c.requires.kept.0.usable

pub returns-clause-did : goal.returns-clause-did
returns-clause-did g c = λ s.
    let held = c.args.self.now in
    subst (λ (o : Outcome values.Value). Did value_seen c.answer_of.result s o)
    (sym (asks_violations held.solver held.names (waits held) c.args.at c.args.total (c.requires.own ∙ sym c.requires.kept.0.number_) s c.args.x c.requires.side))
    (c.answer_of.ensures.did _ c.var_violations.ensures s)
