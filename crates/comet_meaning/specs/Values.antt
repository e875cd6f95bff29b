-- Values are what expressions give and what the cells of names hold. Numbers, truth values, ranges and sets are
-- values of their own, and are copied. An array, a variable and an object are known by their numbers, so all who
-- have one have the same. From the language.
use Rattle.std.specs.Prelude.{ℕ, suc, ℤ, pos, ◌-ℤ◌, Bool, false, not, ◌&&◌, List, [], Option, nat_abs, int_lt, if◌then◌else◌}
use Rattle.cbl_base.specs.declared.ids.VarId.{VarId}
use Rattle.cbl_base.specs.declared.input.Input.{Input as ModelValue}
use Rattle.cbl_base.specs.declared.input.Input.TheVariants as inputs
use Rattle.checked_tree.specs.declared.kind.Kind.{Kind}
use Rattle.checked_tree.specs.declared.kind.Kind.TheVariants as kinds

-- the numbers from `low` to `up`, and none where `up` is below `low`
pub record Bounds : Type 0 where
  pub low : ℤ
  pub up : ℤ

-- the bounds of an array's first index, and of its second one where it has two
pub record Extent : Type 0 where
  pub rows : Bounds
  pub columns : Option Bounds

pub data Value : Type 0 where
  -- what gives no value
  Nothing : Value
  Number : ℤ → Value
  Truth : Bool → Value
  Range : Bounds → Value
  Set : List ℤ → Value
  -- an array of numbers, by its number
  Array : ℕ → Value
  -- numbers in a row that are no array yet: what a list or an `all` gives
  Row : List ℤ → Value
  -- a variable that isn't read yet, and an array of variables, by its number
  Variable : VarId → Value
  Variables : ℕ → Value
  Solver : ℕ → Value
  -- a constraint system, and an objective or a sum of terms, by the number of its solver and its own number there
  System : ℕ → ℕ → Value
  Objective : ℕ → ℕ → Value
  Input : ℕ → Value
  -- a distribution over a range; a `MinNeighborSelector`, and its move, by its number; and a solution, by its number
  Distribution : Bounds → Value
  Selector : ℕ → Value
  Move : ℕ → Value
  Solution : ℕ → Value

-- What is asked of a value. A checked program asks it only of a value that has it; of any other the answer is
-- harmless, and no run of a checked program meets it.

-- a truth value stands as 1 or 0 where a number is asked
abbrev pub number_of : Value → ℤ
number_of (Number z) = z
number_of (Truth b) = if b then pos 1 else pos 0
number_of v = pos 0

abbrev pub truth_of : Value → Bool
truth_of (Truth b) = b
truth_of v = false

abbrev pub bounds_of : Value → Bounds
bounds_of (Range b) = b
bounds_of v = record { low = pos 0; up = pos 0 -ℤ pos 1 }

abbrev pub members_of : Value → List ℤ
members_of (Set s) = s
members_of v = []

abbrev pub solver_of : Value → ℕ
solver_of (Solver m) = m
solver_of v = 0

-- the value of a variable as a model has it
abbrev pub value_of_input : ModelValue → Value
value_of_input (inputs.Int z) = Number z
value_of_input (inputs.Set s) = Set s

-- how many numbers lie within bounds
abbrev pub size_of : Bounds → ℕ
size_of b = if int_lt b.up b.low then 0 else suc (nat_abs (b.up -ℤ b.low))

abbrev pub is_within : Bounds → ℤ → Bool
is_within b i = not (int_lt i b.low) && not (int_lt b.up i)

-- the bounds of what has so many places, numbered from 0
abbrev pub from_zero : ℕ → Bounds
from_zero n = record { low = pos 0; up = pos n -ℤ pos 1 }

-- a value as a name of this kind holds it: an `int` holds a truth value as 1 or 0
abbrev pub as_kind : Kind → Value → Value
as_kind kinds.Int v = Number (number_of v)
as_kind k v = v

-- the value without a start, and that of a function that ends without `return`
abbrev pub first_value : Kind → Value
first_value kinds.Int = Number (pos 0)
first_value kinds.Bool = Truth false
first_value kinds.Set = Set []
first_value k = Nothing
