-- What a part of a constraint tells of a variable, from the values and the violations that are read, where some slots
-- depend on the variable. A rule of this project.
use Rattle.std.specs.Prelude.{ℕ, ℤ, pos, ◌-◌, ◌+ℤ◌, Bool, List, fold, map, filter, Option, Some, None, Result, Ok, Err, int_lt, slice_get, if◌then◌else◌}
use Rattle.std.specs.Int.{int_max}
use Rattle.std.specs.Option.{option_map}
use Rattle.std.specs.List.{list_any, range_with_len}
use Rattle.cbl_base.specs.Arithmetic.{exact}
use Rattle.cbl_base.specs.declared.faults.RunFault.{RunFault}
use Rattle.cbl_operations.specs.Operations.Greatest.{greatest_of}
use Rattle.store_shares.specs.declared.parts.Part.{Part}
use Rattle.store_shares.specs.declared.parts.Part.TheOpen.{Part-F}
use Rattle.store_shares.specs.declared.parts.Part.TheFolds.{fold-Part}

-- the number of an id, and the violation at each place of an id
pub record Reading : Type 0 where
  pub number : ℕ → ℤ
  pub violation : ℕ → ℕ → ℤ

-- ---- slots
-- whether one of a range passes
abbrev pub one_in : (ℕ → Bool) → ℕ → ℕ → Bool
one_in test first end = list_any test (range_with_len first (end - first))

-- the greater of a number so far and another
abbrev pub greater_told : Option ℤ → ℤ → ℤ
greater_told (Some most) x = int_max most x
greater_told None x = x

-- the violations at the places of those that pass
abbrev pub violations_in : Reading → (ℕ → Bool) → ℕ → ℕ → ℕ → List ℤ
violations_in reading test id first end = map (λ k. reading.violation id (k - first)) (filter test (range_with_len first (end - first)))

-- ---- sums
-- a sum so far and one number more, where there is one
abbrev pub add_told : Result ℤ RunFault → Result ℤ RunFault → Result ℤ RunFault
add_told (Ok sum) (Ok x) = Ok (sum +ℤ x)
add_told (Ok sum) (Err fault) = Err fault
add_told (Err fault) told = Err fault

abbrev pub sum_told : List (Result ℤ RunFault) → Result ℤ RunFault
sum_told tolds = fold add_told (Ok (pos 0)) tolds

-- it fits, or it doesn't
abbrev pub fitted : Result ℤ RunFault → Result ℤ RunFault
fitted (Ok sum) = exact sum
fitted (Err fault) = Err fault

-- ---- what is told of a part: its number, and the variable's violations in it
pub record Told : Type 0 where
  pub number : ℤ
  pub violation : Result ℤ RunFault

-- of two parts the one with fewer violations, the first where they have as many
abbrev pub fewer_told : Option Told → Told → Option Told
fewer_told (Some first) told = Some (if int_lt told.number first.number then told else first)
fewer_told None told = Some told

abbrev pub fewest_told : List Told → Option Told
fewest_told tolds = fold fewer_told None tolds

-- that of the part at a place
abbrev pub told_at : (Part → Told) → List Part → Option ℕ → Option Told
told_at tell parts (Some k) = option_map tell (slice_get parts k)
told_at tell parts None = None

abbrev pub violation_if : Option Told → Result ℤ RunFault
violation_if (Some told) = told.violation
violation_if None = Ok (pos 0)

abbrev pub violation_of : Told → Result ℤ RunFault
violation_of told = told.violation

abbrev pub told_step : Reading → (ℕ → Bool) → Part-F Told → Told
told_step reading test (Part-F.Leaf id) = record { number = reading.number id; violation = Ok (pos 0) }
told_step reading test (Part-F.Negation id first end) = record { number = reading.number id; violation = Ok (if one_in test first end then reading.number id else pos 0) }
told_step reading test (Part-F.Plain id first end) = record { number = reading.number id; violation = Ok (greatest_of (violations_in reading test id first end)) }
told_step reading test (Part-F.Every id first end parts) = record { number = reading.number id; violation = if one_in test first end then fitted (sum_told (map violation_of parts.items)) else Ok (pos 0) }
told_step reading test (Part-F.One id first end parts) = record { number = reading.number id; violation = if one_in test first end then violation_if (fewest_told parts.items) else Ok (pos 0) }

abbrev pub told : Reading → (ℕ → Bool) → Part → Told
told reading test = fold-Part Told (told_step reading test)
