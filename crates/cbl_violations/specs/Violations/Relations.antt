-- A relation of two numbers has 0 violations where it holds, and else how far the first is from where
-- it would hold: `a == b` by how much they differ, `a <= b` and `a < b` by how much less the first must
-- be, `a != b` by 1. At each of its two places it is as many. A rule of this project.
use Rattle.std.specs.Prelude.{◌==◌, ℕ, ℤ, pos, ◌+ℤ◌, ◌-ℤ◌, List, [], ◌∷◌, Result, if◌then◌else◌, slice_index_or}
use Rattle.std.specs.Result.{result_unwrap_or}
use Rattle.std.specs.Ordering.{int_eq}
use Rattle.cbl_base.specs.NumberRule.{NumberRule}
use Rattle.cbl_base.specs.declared.faults.RunFault.{RunFault}
use Rattle.cbl_violations.specs.Fitting.{where_all_fit, excess, distance}

abbrev pub eq_violations : ℤ → ℤ → Result ℤ RunFault
eq_violations a b = where_all_fit ((a -ℤ b) ∷ distance (a -ℤ b) ∷ []) (distance (a -ℤ b))

abbrev pub ne_violations : ℤ → ℤ → Result ℤ RunFault
ne_violations a b = where_all_fit [] (if int_eq a b then pos 1 else pos 0)

abbrev pub le_violations : ℤ → ℤ → Result ℤ RunFault
le_violations a b = where_all_fit ((a -ℤ b) ∷ []) (excess (a -ℤ b))

abbrev pub lt_violations : ℤ → ℤ → Result ℤ RunFault
lt_violations a b = where_all_fit ((a -ℤ b +ℤ pos 1) ∷ []) (excess (a -ℤ b +ℤ pos 1))

-- a relation's violations of the two inputs
abbrev pub of_two : (ℤ → ℤ → Result ℤ RunFault) → List ℤ → Result ℤ RunFault
of_two violations xs = violations (slice_index_or xs 0 (pos 0)) (slice_index_or xs 1 (pos 0))

-- at each place its violations
abbrev pub at_each : (ℤ → ℤ → Result ℤ RunFault) → List ℤ → ℕ → ℤ
at_each violations xs place = result_unwrap_or (of_two violations xs) (pos 0)

abbrev pub relation : (ℤ → ℤ → Result ℤ RunFault) → NumberRule
relation violations = record {
  takes = λ n. n == 2;
  value = of_two violations;
  violation_at = at_each violations;
}

abbrev pub viol_eq : NumberRule
viol_eq = relation eq_violations

abbrev pub viol_ne : NumberRule
viol_ne = relation ne_violations

abbrev pub viol_le : NumberRule
viol_le = relation le_violations

abbrev pub viol_lt : NumberRule
viol_lt = relation lt_violations
