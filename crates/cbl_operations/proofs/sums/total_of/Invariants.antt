use Rattle.std.proofs.Common.{◌≡◌, ◌*◌, ◌^◌, take, pos, neg_ℤ, ◌≤ℤ◌}
use Rattle.cbl_base.specs.Totals.{total}
use Rattle.cbl_operations.proofs.sums.total_of.Given as goal

abbrev pub invariant-loop-x : goal.invariant-loop-x
invariant-loop-x l =
    record {
      so_far : l.sum.value ≡ total (take l.x-index l.numbers);
      low : neg_ℤ (pos (2 ^ 63 * l.x-index)) ≤ℤ l.sum.value;
      high : l.sum.value ≤ℤ pos (2 ^ 63 * l.x-index);
    }
