use Rattle.std.proofs.Common.{pos, arith}
use Rattle.std.proofs.lemmas.Int.{ints}
use Rattle.cbl_base.proofs.TotalLemmas.{total-more}
use Rattle.cbl_operations.proofs.sums.total_of.Goals as goal

pub loop-x-preserved : goal.loop-x-preserved
loop-x-preserved c =
    let next = total-more c.args.numbers.now c.loop-x.x-index (pos 0) c.loop-x-test.true in
    record { so_far = omega (arith, ints, next); low = omega (arith, ints); high = omega (arith, ints) }
