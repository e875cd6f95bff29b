-- All values are to differ: each value that stands there counts as often as it stands there once too
-- many. At a place it is 1 where its value stands at another place too. Comet's `alldifferent`.
use Rattle.std.specs.Prelude.{ℕ, ℤ, pos, ◌-◌, List, Result, true, nat_le, if◌then◌else◌, slice_index_or}
use Rattle.cbl_base.specs.Arithmetic.{exact}
use Rattle.cbl_base.specs.Counts.{count_of, values_in}
use Rattle.cbl_base.specs.Totals.{total_by}
use Rattle.cbl_base.specs.NumberRule.{NumberRule}
use Rattle.cbl_base.specs.declared.faults.RunFault.{RunFault}

-- at how many places more than one the value stands
abbrev pub repeats_of : List ℤ → ℤ → ℤ
repeats_of xs v = pos (count_of v xs - 1)

unfoldable pub all_different_violations : List ℤ → Result ℤ RunFault
all_different_violations xs = exact (total_by (repeats_of xs) (values_in xs))

unfoldable pub all_different_violation_at : List ℤ → ℕ → ℤ
all_different_violation_at xs place =
    if nat_le 2 (count_of (slice_index_or xs place (pos 0)) xs) then pos 1 else pos 0

abbrev pub all_different : NumberRule
all_different = record {
  takes = λ _. true;
  value = all_different_violations;
  violation_at = all_different_violation_at;
}
