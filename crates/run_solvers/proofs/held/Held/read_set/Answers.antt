-- A set is read, or can't be read yet.
use Rattle.std.proofs.Common.{ℤ, List, sym, ◌∙◌, ap}
use Rattle.cbl_base.specs.Sets.{set_of}
use Rattle.cbl_base.proofs.SetLemmas.{set_of-rising}
use Rattle.comet_meaning.specs.Outcome.{Went}
use Rattle.comet_meaning.specs.Values as values
use Rattle.run_solvers.specs.Views.{waits}
use Rattle.run_solvers.proofs.ReadStops.{set_stops}
use Rattle.run_solvers.proofs.ValueLaws.{kind_own, set_there}
use Rattle.run_solvers.proofs.held.Held.read_set.Goals as goal

pub set_value-requires-clause-usable : goal.set_value-requires-clause-usable
set_value-requires-clause-usable g c = c.requires.kept.0.usable

pub set_value-requires-clause-kind : goal.set_value-requires-clause-kind
set_value-requires-clause-kind g c = λ own. (kind_own c.args.self.now.solver c.args.variable _ c.requires.kind).1

pub returns-in_ok-copy-in-Ok-clause-did : goal.returns-in_ok-copy-in-Ok-clause-did
returns-in_ok-copy-in-Ok-clause-did g c = λ s.
    let held = c.args.self.now in
    let members = c.in-Ok.members.now in
    let copied = c.in_ok-copy-in-Ok.ensures ∙ ap set_of c.as_slice.ensures.members ∙ set_of-rising members c.as_slice.ensures.rising in
    set_there held.solver held.names (waits held) c.args.at c.args.variable s c.requires.kind c.in-Ok.ensures.answer members c.in-Ok.ensures.value
    ∙ ap (λ (xs : List ℤ). Went (values.Set xs) s) (sym copied)

pub returns-in-Err-clause-did : goal.returns-in-Err-clause-did
returns-in-Err-clause-did g c = λ s.
    let held = c.args.self.now in
    set_stops held.solver held.names (waits held) c.args.at c.args.variable s c.requires.kind c.in-Err.fault c.stop_of.result c.in-Err.ensures.answer c.stop_of.ensures
