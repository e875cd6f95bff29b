use Rattle.std.proofs.Common.{◌≡◌, ◌≤◌, ◌*◌, ◌^◌, pos, ◌≤ℤ◌, take, w64}
use Rattle.std.specs.Prelude.{All, FitsSigned}
use Rattle.cbl_base.specs.Totals.{total_by}
use Rattle.diff_global.specs.Differences.{differs_by, part, misfit}
use Rattle.diff_global.proofs.cardinality.totals_of_none.Given as goal

abbrev pub invariant-loop-bound : goal.invariant-loop-bound
invariant-loop-bound l =
    record {
      sum : l.totals.sum ≡ total_by (λ c. part l.demand (differs_by l.demand 0 c)) (take l.bound-index l.bounds);
      misfits : pos l.totals.misfits ≡ total_by (λ c. pos (misfit (differs_by l.demand 0 c))) (take l.bound-index l.bounds);
      low : pos 0 ≤ℤ l.totals.sum;
      high : l.totals.sum ≤ℤ pos (2 ^ 64 * l.bound-index);
      few : l.totals.misfits ≤ l.bound-index;
      each : All (λ x. FitsSigned w64 x) (take l.bound-index l.bounds);
    }
