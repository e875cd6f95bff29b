-- An odometer over generators: those that are open, the last one on top, each with the values that it has left. What is
-- left of all tuples is what the top has left, and then what is left below it. A rule of this project.
use Rattle.std.specs.Prelude.{ℕ, zero, suc, ℤ, pos, ◌+ℤ◌, Bool, List, [], ◌∷◌, length, take, drop, Option, None, Some}
use Rattle.cbl_base.specs.declared.place.Place.{Place}
use Rattle.checked_tree.specs.declared.expressions.Slot.{Slot}
use Rattle.checked_tree.specs.declared.expressions.Slot.TheVariants.{Global}
use Rattle.checked_tree.specs.Shape as shapes
use Rattle.checked_tree.specs.Shape.{Shape}
use Rattle.comet_meaning.specs.Values.{Value, Range, Set, size_of}
use Rattle.comet_meaning.specs.Outcome.{Act, ◌>>=◌, give, each_from, each_of}
use Rattle.comet_meaning.specs.Levels.{Level}
use Rattle.comet_meaning.specs.Generators.{Bound, with_bound, generated, each_tuple}

-- the values that are left: so many numbers from this one on, or members
pub data Pending : Type 0 where
  Numbers : ℤ → ℕ → Pending
  Members : List ℤ → Pending

-- all values of a domain
abbrev pub pending_of : Value → Pending
pending_of (Range b) = Numbers b.low (size_of b)
pending_of (Set xs) = Members xs
pending_of v = Members []

abbrev pub next_of : Pending → Option ℤ
next_of (Numbers v zero) = None
next_of (Numbers v (suc n)) = Some v
next_of (Members []) = None
next_of (Members (v ∷ vs)) = Some v

-- what is left behind the next value
abbrev pub behind_next : Pending → Pending
behind_next (Numbers v zero) = Numbers v zero
behind_next (Numbers v (suc n)) = Numbers (v +ℤ pos 1) n
behind_next (Members []) = Members []
behind_next (Members (v ∷ vs)) = Members vs

-- over the values that are left, as long as what was made so far goes on
abbrev pub each_pending : {A : Type 0} → (A → Bool) → (ℤ → A → Act A) → Pending → A → Act A
each_pending more f (Numbers v n) x = each_from more f v n x
each_pending more f (Members vs) x = each_of more f vs x

pub record Opened : Type 0 where
  pub place : Place
  pub slot : Slot
  -- the names before it, with their values
  pub known : List Bound
  -- the generators behind it
  pub later : List Shape
  pub pending : Pending

-- a generator opens with all values of its domain
abbrev pub opened : List Bound → Place → Slot → List Shape → Value → Opened
opened known place slot later domain = record { place = place; slot = slot; known = known; later = later; pending = pending_of domain }

-- the same generator behind its next value
abbrev pub advanced : Opened → Opened
advanced o = record o { pending = behind_next o.pending }

-- the names so far, where its own has this value
abbrev pub known_at : Opened → ℤ → List Bound
known_at o v = with_bound o.known o.slot v

-- what one value of a generator does, with the names so far: the generators behind it have all their tuples, and where
-- there are none the tuple is visited
abbrev pub one_value : {A : Type 0} → Level → Place → (A → Bool) → (ℤ → A → Act A) → Place → List Bound → List Shape → ℤ → A → Act A
one_value l at more visit place known [] v x = generated at known (visit v x)
one_value l at more visit place known (g ∷ gs) v x = generated place known (each_tuple l at more visit known (g ∷ gs) x)

-- how one value begins: its unit is charged, and the names get their values
abbrev pub begun : Place → List Bound → Act (Unit {0})
begun at known = generated at known (give tt)

-- what is still to be done where these generators are open
unfoldable pub rest_of : {A : Type 0} → Level → Place → (A → Bool) → (ℤ → A → Act A) → List Opened → A → Act A
rest_of l at more visit [] x = give x
rest_of l at more visit (o ∷ os) x =
    each_pending more (λ v y. one_value l at more visit o.place (known_at o v) o.later v y) o.pending x >>= rest_of l at more visit os

-- The same without a list of names for each: which generator it is, and how many names it knows, is how many are open
-- below it.

-- the generator that such a rest begins with, with so many of these names before it
abbrev pub open_at : List Bound → ℕ → Pending → List Shape → Opened
open_at bounds n p (shapes.generator place slot domain ∷ gs) =
    record { place = place; slot = slot; known = take n bounds; later = gs; pending = p }
open_at bounds n p gs =
    record { place = record { line = 0; col = 0 }; slot = Global 0; known = []; later = []; pending = Members [] }

-- generators are open with these pending values, the last one first, and all but that one have the value told
abbrev pub stack_of : List Shape → List Bound → List Pending → List Opened
stack_of gs bounds [] = []
stack_of gs bounds (p ∷ ps) = open_at bounds (length ps) p (drop (length ps) gs) ∷ stack_of gs bounds ps
