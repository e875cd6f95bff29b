-- Truth as a number: 1 is true and 0 is false. To `and`, `or` and `!` a number that isn't 0 counts as true;
-- to `setof` only 1 does. A rule of this project.
use Rattle.std.specs.Prelude.{ℤ, pos, Bool, not, if◌then◌else◌}
use Rattle.std.specs.Ordering.{int_eq}

abbrev pub truth : Bool → ℤ
truth b = if b then pos 1 else pos 0

abbrev pub is_true : ℤ → Bool
is_true x = not (int_eq x (pos 0))

abbrev pub is_one : ℤ → Bool
is_one x = int_eq x (pos 1)
