-- How often a number stands in a list: at the places other than one, and as counts that are kept
-- beside the list say. A rule of this project.
use Rattle.std.specs.Prelude.{◌≡◌, ℕ, ℤ, suc, List, [], ◌∷◌, remove, Option, Some, None, unwrap_or, if◌then◌else◌}
use Rattle.std.specs.Option.{option_map}
use Rattle.std.specs.Map.{lookup}
use Rattle.std.specs.Ordering.{int_eq}
use Rattle.cbl_base.specs.Counts.{count_of}
use Rattle.node_base.specs.declared.number_change.NumberChange.{NumberChange}
use Rattle.node_base.specs.declared.tally.Elsewhere.{Elsewhere}
use Rattle.node_base.specs.NumberChanges.{after_number_change, IsNumberChange}

-- at how many places other than this one the number stands
abbrev pub count_elsewhere : List ℤ → ℕ → ℤ → ℕ
count_elsewhere xs place v = count_of v (remove xs place)

-- how often the old and the new number of a change stand at the other places
pub record IsElsewhere (xs : List ℤ) (c : NumberChange) (e : Elsewhere) : Type 0 where
  pub old : e.old ≡ count_elsewhere xs c.place c.old
  pub new : e.new ≡ count_elsewhere xs c.place c.new

-- the count of a number: as it is kept, and where none is kept, as in the list
abbrev pub count_over : List ℤ → List (ℤ × ℕ) → ℤ → ℕ
count_over xs kept v = unwrap_or (lookup (λ k. int_eq v k) kept) (count_of v xs)

-- the place from 0 of the first count of a number
abbrev pub place_among : ℤ → List (ℤ × ℕ) → Option ℕ
place_among v [] = None
place_among v (e ∷ es) = if int_eq v e.0 then Some 0 else option_map suc (place_among v es)

-- the counts that are kept make those of the list `xs` into those of the list `ys`
abbrev pub Shows : List ℤ → List (ℤ × ℕ) → List ℤ → Type 0
Shows xs kept ys = (v : ℤ) → count_over xs kept v ≡ count_of v ys

-- another count is kept of a number, and the others stay
abbrev pub IsWritten : List (ℤ × ℕ) → List (ℤ × ℕ) → ℤ → ℕ → Type 0
IsWritten kept kept' number times =
    (v : ℤ) → lookup (λ k. int_eq v k) kept' ≡ (if int_eq number v then Some times else lookup (λ k. int_eq v k) kept)

-- of whatever list they show, the counts come to show the list after a change, and the answer says
-- how often its numbers stand at the other places
abbrev pub ShowsChange : List ℤ → List (ℤ × ℕ) → List (ℤ × ℕ) → NumberChange → Elsewhere → Type 0
ShowsChange xs kept kept' c e =
    (ys : List ℤ) → Shows xs kept ys → IsNumberChange ys c → Shows xs kept' (after_number_change ys c) × IsElsewhere ys c e
