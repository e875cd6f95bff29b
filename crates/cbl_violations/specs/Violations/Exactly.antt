-- Each bounded value is to stand at exactly as many places as its bound says, and each place that is
-- too much or lacks is a violation. At a place it is 1 where its value stands there more often than its
-- bound, or has no bound while there are violations. Comet's `exactly`.
use Rattle.std.specs.Prelude.{ℕ, ℤ, pos, List, [], ◌∷◌, ◌++◌, length, true, unwrap_or, Result, if◌then◌else◌, slice_index_or}
use Rattle.cbl_base.specs.Totals.{total_by}
use Rattle.cbl_base.specs.NumberRule.{NumberRule}
use Rattle.cbl_base.specs.declared.faults.RunFault.{RunFault}
use Rattle.cbl_violations.specs.Fitting.{where_all_fit, each_below, distance}
use Rattle.cbl_violations.specs.Violations.AtMost.{surplus, is_over}
use Rattle.cbl_violations.specs.Violations.AtLeast.{is_violated}

unfoldable pub exactly_violations : ℤ → List ℤ → List ℤ → Result ℤ RunFault
exactly_violations low bounds xs =
    let surpluses = each_below (length bounds) (surplus low bounds xs) in
    where_all_fit (surpluses ++ total_by distance surpluses ∷ []) (total_by distance surpluses)

unfoldable pub exactly_violation_at : ℤ → List ℤ → List ℤ → ℕ → ℤ
exactly_violation_at low bounds xs place =
    let v = slice_index_or xs place (pos 0) in
    if unwrap_or (is_over low bounds xs v) (is_violated (exactly_violations low bounds xs)) then pos 1 else pos 0

abbrev pub exactly : ℤ → List ℤ → NumberRule
exactly low bounds = record {
  takes = λ _. true;
  value = exactly_violations low bounds;
  violation_at = exactly_violation_at low bounds;
}
