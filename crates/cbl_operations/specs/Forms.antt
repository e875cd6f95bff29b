-- The forms that the rules of operations have: of one number, of two, of a list with one number at
-- least, and of any list. An operation is no constraint: its violation is 0 at each place. A rule of this
-- project.
use Rattle.std.specs.Prelude.{ℤ, pos, true, ◌==◌, ℕ, nat_lt, List, Result, slice_index_or}
use Rattle.cbl_base.specs.NumberRule.{NumberRule}
use Rattle.cbl_base.specs.declared.faults.RunFault.{RunFault}

-- the number at a place, 0 past the end
abbrev pub number_at : List ℤ → ℕ → ℤ
number_at xs k = slice_index_or xs k (pos 0)

abbrev pub rule_of_one : (ℤ → Result ℤ RunFault) → NumberRule
rule_of_one f = record {
  takes = λ n. n == 1;
  value = λ xs. f (number_at xs 0);
  violation_at = λ _ _. pos 0;
}

abbrev pub rule_of_two : (ℤ → ℤ → Result ℤ RunFault) → NumberRule
rule_of_two f = record {
  takes = λ n. n == 2;
  value = λ xs. f (number_at xs 0) (number_at xs 1);
  violation_at = λ _ _. pos 0;
}

abbrev pub rule_of_some : (List ℤ → Result ℤ RunFault) → NumberRule
rule_of_some f = record {
  takes = λ n. nat_lt 0 n;
  value = f;
  violation_at = λ _ _. pos 0;
}

abbrev pub rule_of_list : (List ℤ → Result ℤ RunFault) → NumberRule
rule_of_list f = record {
  takes = λ _. true;
  value = f;
  violation_at = λ _ _. pos 0;
}
