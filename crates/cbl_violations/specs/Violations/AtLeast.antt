-- Each bounded value is to stand at as many places as its bound says, and each place that lacks is a
-- violation. Where there are violations, it is 1 at a place that could be spared: its value has no
-- bound, or stands there more often than its bound. Comet's `atleast`.
use Rattle.std.specs.Prelude.{ℕ, ℤ, pos, ◌+ℤ◌, ◌-ℤ◌, List, [], ◌∷◌, ◌++◌, length, Bool, true, ◌&&◌, not, unwrap_or, Result, if◌then◌else◌, slice_index_or}
use Rattle.std.specs.Result.{result_unwrap_or}
use Rattle.std.specs.Ordering.{int_eq}
use Rattle.cbl_base.specs.Counts.{count_of}
use Rattle.cbl_base.specs.Totals.{total_by}
use Rattle.cbl_base.specs.NumberRule.{NumberRule}
use Rattle.cbl_base.specs.declared.faults.RunFault.{RunFault}
use Rattle.cbl_violations.specs.Fitting.{where_all_fit, each_below, excess}
use Rattle.cbl_violations.specs.Violations.AtMost.{is_over}

-- how much less often than its bound the value stands there whose bound is the k-th
abbrev pub shortage : ℤ → List ℤ → List ℤ → ℕ → ℤ
shortage low bounds xs k = slice_index_or bounds k (pos 0) -ℤ pos (count_of (low +ℤ pos k) xs)

unfoldable pub at_least_violations : ℤ → List ℤ → List ℤ → Result ℤ RunFault
at_least_violations low bounds xs =
    let shortages = each_below (length bounds) (shortage low bounds xs) in
    where_all_fit (shortages ++ total_by excess shortages ∷ []) (total_by excess shortages)

-- whether there are violations
abbrev pub is_violated : Result ℤ RunFault → Bool
is_violated violations = not (int_eq (result_unwrap_or violations (pos 0)) (pos 0))

unfoldable pub at_least_violation_at : ℤ → List ℤ → List ℤ → ℕ → ℤ
at_least_violation_at low bounds xs place =
    let v = slice_index_or xs place (pos 0) in
    if is_violated (at_least_violations low bounds xs) && unwrap_or (is_over low bounds xs v) true then pos 1 else pos 0

abbrev pub at_least : ℤ → List ℤ → NumberRule
at_least low bounds = record {
  takes = λ _. true;
  value = at_least_violations low bounds;
  violation_at = at_least_violation_at low bounds;
}
