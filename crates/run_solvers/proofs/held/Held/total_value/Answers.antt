-- It is read, or can't be read.
use Rattle.std.proofs.Common.{◌≡◌, ℤ, sym, ◌∙◌, ap, rules, w64, to_z, of_z}
use Rattle.comet_meaning.specs.Values as values
use Rattle.comet_meaning.specs.Outcome.{Went}
use Rattle.run_solvers.specs.Views.{waits}
use Rattle.run_solvers.proofs.AskingLaws.{value_stops, value_there}
use Rattle.run_solvers.proofs.held.Held.total_value.Goals as goal

pub total-requires : goal.total-requires
total-requires g c = c.requires.kept.0.usable

pub returns-in-Ok-clause-did : goal.returns-in-Ok-clause-did
returns-in-Ok-clause-did g c = λ s.
    let held = c.args.self.now in
    let same : to_z w64 (of_z w64 c.in-Ok.number) ≡ c.in-Ok.number = search rules in
    value_there held.solver held.names (waits held) c.args.at c.args.total (c.requires.own ∙ sym c.requires.kept.0.number_) s c.in-Ok.ensures.answer _ c.in-Ok.ensures.value
    ∙ ap (λ (z : ℤ). Went (values.Number z) s) (sym same)

pub returns-in-Err-clause-did : goal.returns-in-Err-clause-did
returns-in-Err-clause-did g c = λ s.
    let held = c.args.self.now in
    value_stops held.solver held.names (waits held) c.args.at c.args.total (c.requires.own ∙ sym c.requires.kept.0.number_) s c.in-Err.fault c.stop_of.result c.in-Err.ensures.answer c.stop_of.ensures
