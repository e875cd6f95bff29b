-- Each place is an item, and its value is the item's bin. The load of a bin, the sizes of its items, is
-- to stay within the bin's capacity: the sum of how far each load is above. At a place it is how far the
-- load of its bin is above, and 0 where its value is no bin. Comet's `multiknapsack`.
use Rattle.std.specs.Prelude.{◌==◌, ℕ, ℤ, pos, ◌+ℤ◌, ◌-ℤ◌, List, [], ◌∷◌, ◌++◌, length, Option, Some, None, Result, if◌then◌else◌, slice_index_or}
use Rattle.std.specs.Ordering.{int_eq}
use Rattle.cbl_base.specs.Totals.{total, total_by}
use Rattle.cbl_base.specs.NumberRule.{NumberRule}
use Rattle.cbl_base.specs.declared.faults.RunFault.{RunFault}
use Rattle.cbl_violations.specs.Fitting.{where_all_fit, each_below, excess}
use Rattle.cbl_violations.specs.Bounds.{bound_of}

-- the size of the item at a place, where it is in the bin, and 0 else
abbrev pub size_in : ℤ → List ℤ → List ℤ → ℕ → ℤ
size_in bin sizes xs place =
    if int_eq (slice_index_or xs place (pos 0)) bin then slice_index_or sizes place (pos 0) else pos 0

-- the load of a bin
abbrev pub load_of : ℤ → List ℤ → List ℤ → ℤ
load_of bin sizes xs = total (each_below (length xs) (size_in bin sizes xs))

-- the load of the bin whose capacity is the k-th, and how far it is above
abbrev pub load_at : List ℤ → ℤ → List ℤ → ℕ → ℤ
load_at sizes low xs k = load_of (low +ℤ pos k) sizes xs

abbrev pub overload_at : List ℤ → ℤ → List ℤ → List ℤ → ℕ → ℤ
overload_at sizes low capacities xs k = load_at sizes low xs k -ℤ slice_index_or capacities k (pos 0)

unfoldable pub multi_knapsack_violations : List ℤ → ℤ → List ℤ → List ℤ → Result ℤ RunFault
multi_knapsack_violations sizes low capacities xs =
    let loads = each_below (length capacities) (load_at sizes low xs) in
    let overloads = each_below (length capacities) (overload_at sizes low capacities xs) in
    where_all_fit (loads ++ overloads ++ total_by excess overloads ∷ []) (total_by excess overloads)

-- how far the load of a bin of this capacity is above, if it is a bin
abbrev pub excess_of : Option ℤ → ℤ → ℤ
excess_of (Some capacity) load = excess (load -ℤ capacity)
excess_of None load = pos 0

unfoldable pub multi_knapsack_violation_at : List ℤ → ℤ → List ℤ → List ℤ → ℕ → ℤ
multi_knapsack_violation_at sizes low capacities xs place =
    let bin = slice_index_or xs place (pos 0) in
    excess_of (bound_of low capacities bin) (load_of bin sizes xs)

abbrev pub multi_knapsack : List ℤ → ℤ → List ℤ → NumberRule
multi_knapsack sizes low capacities = record {
  takes = λ n. n == length sizes;
  value = multi_knapsack_violations sizes low capacities;
  violation_at = multi_knapsack_violation_at sizes low capacities;
}
