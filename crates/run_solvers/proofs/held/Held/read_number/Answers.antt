-- A number is read, or can't be read yet.
use Rattle.std.proofs.Common.{◌≡◌, ℤ, sym, ◌∙◌, ap, rules, w64, to_z, of_z}
use Rattle.comet_meaning.specs.Values as values
use Rattle.comet_meaning.specs.Outcome.{Went}
use Rattle.run_solvers.specs.Views.{waits}
use Rattle.run_solvers.proofs.ReadStops.{number_stops}
use Rattle.run_solvers.proofs.ValueLaws.{kind_own, number_there}
use Rattle.run_solvers.proofs.held.Held.read_number.Goals as goal

pub value-requires-clause-usable : goal.value-requires-clause-usable
value-requires-clause-usable g c = c.requires.kept.0.usable

pub value-requires-clause-kind : goal.value-requires-clause-kind
value-requires-clause-kind g c = λ own. (kind_own c.args.self.now.solver c.args.variable _ c.requires.kind).1

pub returns-in-Ok-clause-did : goal.returns-in-Ok-clause-did
returns-in-Ok-clause-did g c = λ s.
    let held = c.args.self.now in
    let same : to_z w64 (of_z w64 c.in-Ok.number) ≡ c.in-Ok.number = search rules in
    number_there held.solver held.names (waits held) c.args.at c.args.variable s c.requires.kind c.in-Ok.ensures.answer _ c.in-Ok.ensures.value
    ∙ ap (λ (z : ℤ). Went (values.Number z) s) (sym same)

pub returns-in-Err-clause-did : goal.returns-in-Err-clause-did
returns-in-Err-clause-did g c = λ s.
    let held = c.args.self.now in
    number_stops held.solver held.names (waits held) c.args.at c.args.variable s c.requires.kind c.in-Err.fault c.stop_of.result c.in-Err.ensures.answer c.stop_of.ensures
