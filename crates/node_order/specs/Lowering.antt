-- The least number of a list after changes: the least that stands at a place that isn't changed, or the
-- least new number. A rule of this project.
use Rattle.std.specs.Prelude.{ℕ, ℤ, pos, true, List, [], ◌∷◌, Option, Some, None, Ok, nat_lt, fold, count_by, if◌then◌else◌}
use Rattle.std.specs.Int.{int_min}
use Rattle.std.specs.Ordering.{int_eq}
use Rattle.cbl_base.specs.NumberRule.{NumberRule}
use Rattle.cbl_operations.specs.Operations.Least.{least_of}
use Rattle.node_base.specs.declared.number_change.NumberChange.{NumberChange}

-- the number that a change takes away, and how many changes take a number away
abbrev pub old_number : NumberChange → ℤ
old_number c = c.old

abbrev pub times_old : ℤ → List NumberChange → ℕ
times_old v changes = count_by (λ c. int_eq c.old v) changes

-- the first of the counted numbers of which fewer are taken away than there are
abbrev pub first_left : List NumberChange → List (ℤ × ℕ) → Option ℤ
first_left changes [] = None
first_left changes (e ∷ es) = if nat_lt (times_old e.0 changes) e.1 then Some e.0 else first_left changes es

-- the lower of a number, where there is one, and the new number of a change; and of several
abbrev pub lower : Option ℤ → NumberChange → Option ℤ
lower None c = Some c.new
lower (Some m) c = Some (int_min m c.new)

abbrev pub lowest_with : Option ℤ → List NumberChange → Option ℤ
lowest_with found changes = fold lower found changes

-- the rule of the least of any list, 0 for none
abbrev pub lowest : NumberRule
lowest = record {
  takes = λ _. true;
  value = λ xs. Ok (least_of xs);
  violation_at = λ _ _. pos 0;
}
