use Rattle.std.proofs.Common.{pos, get_or, rules, arith, w64, length, ◌<◌, ◌^◌}
use Rattle.std.specs.Prelude.{FitsSigned}
use Rattle.std.proofs.lemmas.Int.{to_z-of_z}
use Rattle.diff_load_seq.proofs.PartLemmas.{has_room_more}
use Rattle.diff_load_seq.proofs.ProductLemmas.{first_products, load_more}
use Rattle.diff_load_seq.proofs.knapsack.load_of.Goals as goal

pub replaced-load-requires : goal.replaced-load-requires
replaced-load-requires c = has_room_more c.loop-k.load (first_products c.args.weights.now c.args.numbers.now c.loop-k.k) c.loop-k.invariant

pub loop-k-preserved : goal.loop-k-preserved
loop-k-preserved c =
    let w : FitsSigned w64 (get_or c.args.weights.now c.loop-k.k (pos 0)) = search rules in
    let x : FitsSigned w64 (get_or c.args.numbers.now c.loop-k.k (pos 0)) = search rules in
    let product = simp (to_z-of_z w64 (get_or c.args.weights.now c.loop-k.k (pos 0)) w, to_z-of_z w64 (get_or c.args.numbers.now c.loop-k.k (pos 0)) x) at c.mul.ensures in
    let short : length c.args.numbers.now < 2 ^ 63 = search rules in
    load_more c.args.weights.now c.args.numbers.now c.loop-k.load c.replaced-load.result c.loop-k.k (omega (arith, short, c.loop-k-test.true)) c.loop-k.invariant
    (rw (← product) c.replaced-load.ensures)
