-- Each bounded value may stand at as many places as its bound says, and each place beyond that is a
-- violation. At a place it is 1 where its value has a bound and stands there too often. Comet's `atmost`.
use Rattle.std.specs.Prelude.{ℕ, ℤ, pos, ◌+ℤ◌, ◌-ℤ◌, List, [], ◌∷◌, ◌++◌, length, Bool, true, false, Option, unwrap_or, Result, if◌then◌else◌, int_lt, slice_index_or}
use Rattle.std.specs.Option.{option_map}
use Rattle.cbl_base.specs.Counts.{count_of}
use Rattle.cbl_base.specs.Totals.{total_by}
use Rattle.cbl_base.specs.NumberRule.{NumberRule}
use Rattle.cbl_base.specs.declared.faults.RunFault.{RunFault}
use Rattle.cbl_violations.specs.Fitting.{where_all_fit, each_below, excess}
use Rattle.cbl_violations.specs.Bounds.{bound_of}

-- how much more often than its bound the value stands there whose bound is the k-th
abbrev pub surplus : ℤ → List ℤ → List ℤ → ℕ → ℤ
surplus low bounds xs k = pos (count_of (low +ℤ pos k) xs) -ℤ slice_index_or bounds k (pos 0)

unfoldable pub at_most_violations : ℤ → List ℤ → List ℤ → Result ℤ RunFault
at_most_violations low bounds xs =
    let surpluses = each_below (length bounds) (surplus low bounds xs) in
    where_all_fit (surpluses ++ total_by excess surpluses ∷ []) (total_by excess surpluses)

-- whether the value stands there more often than its bound, where it has one
abbrev pub is_over : ℤ → List ℤ → List ℤ → ℤ → Option Bool
is_over low bounds xs v = option_map (λ c. int_lt c (pos (count_of v xs))) (bound_of low bounds v)

unfoldable pub at_most_violation_at : ℤ → List ℤ → List ℤ → ℕ → ℤ
at_most_violation_at low bounds xs place =
    let v = slice_index_or xs place (pos 0) in
    if unwrap_or (is_over low bounds xs v) false then pos 1 else pos 0

abbrev pub at_most : ℤ → List ℤ → NumberRule
at_most low bounds = record {
  takes = λ _. true;
  value = at_most_violations low bounds;
  violation_at = at_most_violation_at low bounds;
}
