-- The call is charged, then the cells, and then they are counted.
use Rattle.std.proofs.Common.{refl, rules}
use Rattle.std.specs.Int.{w64}
use Rattle.std.proofs.lemmas.Int.{ints, to_z-of_z}
use Rattle.run_values.specs.Views.{value_seen}
use Rattle.run_state.specs.Views.{state_seen}
use Rattle.run_state.proofs.ActLaws.{counted_law}
use Rattle.run_state.proofs.state.State.count.Goals as goal

pub returns-clause-did : goal.returns-clause-did
returns-clause-did g c =
    let printed = g.O.Outside.told c.args.out.now in
    let s = state_seen c.args.self.now printed in
    let v = value_seen c.args.array.now in
    let law = counted_law c.args.call c.args.place v c.args.number s c.size-cells.result c.spend.new.fuel c.spend-2.new.fuel (c.size-cells.ensures.size printed) (c.in_ok-spend.ensures.did s refl) (c.in_ok-spend-2.ensures.did (record s { fuel = c.spend.new.fuel }) refl) in
    let counted = simp (to_z-of_z w64 c.args.number c.ranges.number) at (c.in_ok-count.ensures.did) in
    rw (law, counted) (search (rules, ints, to_z-of_z))
