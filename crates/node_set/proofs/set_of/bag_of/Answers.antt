use Rattle.std.proofs.Common.{◌<◌, ◌^◌, pos, length, get_or, rules, w64, take, refl}
use Rattle.std.specs.Prelude.{FitsSigned}
use Rattle.std.proofs.lemmas.Int.{to_z-of_z}
use Rattle.node_set.proofs.KeysWhere.{few_where, more_turn}
use Rattle.node_set.proofs.set_of.bag_of.Goals as goal

pub change-requires-clause-few : goal.change-requires-clause-few
change-requires-clause-few c =
    let short : length (take c.loop-i.i c.args.keys.now) < 2 ^ 63 = search rules in
    few_where c.loop-i.bag _ _ _ c.loop-i.invariant short

pub loop-i-preserved : goal.loop-i-preserved
loop-i-preserved c =
    let key = get_or c.args.keys.now c.loop-i.i (pos 0) in
    let number = get_or c.args.numbers.now c.loop-i.i (pos 0) in
    let fits_key : FitsSigned w64 key = search rules in
    let fits_number : FitsSigned w64 number = search rules in
    more_turn c.loop-i.bag c.change.new.self c.args.keys.now c.args.numbers.now c.loop-i.i key c.is_one.result (simp (to_z-of_z w64 key fits_key) at c.in_ok-change.ensures) c.loop-i.invariant c.requires c.loop-i-test.true refl (simp (to_z-of_z w64 number fits_number) at c.is_one.ensures)
