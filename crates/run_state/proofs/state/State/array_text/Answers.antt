-- The cells are charged, and then the text is read.
use Rattle.std.proofs.Common.{refl}
use Rattle.std.proofs.lemmas.Result.{err_from_is_err_and}
use Rattle.run_values.specs.Views.{value_seen}
use Rattle.run_state.specs.Views.{state_seen}
use Rattle.run_state.proofs.PrintLaws.{array_paid, array_unpaid, paid_chars}
use Rattle.run_state.proofs.state.State.array_text.Goals as goal

pub returns-in_err-spend-clause-did : goal.returns-in_err-spend-clause-did
returns-in_err-spend-clause-did g c =
    let printed = g.O.Outside.told c.args.out.now in
    let s = state_seen c.args.self.now printed in
    let p = err_from_is_err_and c.from_residual.result c.from_residual.ensures.1 in
    rw (p.1, p.2) (array_unpaid c.args.at (value_seen c.args.array.now) s _ c.size-cells.result _ (c.size-cells.ensures.size printed) (c.in_err-spend.ensures.did s refl))

pub returns-clause-did : goal.returns-clause-did
returns-clause-did g c =
    let printed = g.O.Outside.told c.args.out.now in
    let s = state_seen c.args.self.now printed in
    rw (array_paid c.args.at (value_seen c.args.array.now) s c.size-cells.result c.spend.new.fuel (c.size-cells.ensures.size printed) (c.in_ok-spend.ensures.did s refl)) (c.read_text.ensures.did)

pub returns-clause-text : goal.returns-clause-text
returns-clause-text g c =
    let printed = g.O.Outside.told c.args.out.now in
    paid_chars c.args.at (value_seen c.args.array.now) (state_seen c.args.self.now printed) c.spend.new.fuel c.read_text.result (c.read_text.ensures.did)
