-- Generators: each gives its values from the least to the greatest, the last one fastest. A value of a generator other
-- than the last costs a unit at its name, and each tuple a unit at the statement or the aggregate. All names so far are
-- bound anew for each value, and a later generator's range sees the earlier names. From the language.
use Rattle.std.specs.Prelude.{ℤ, Bool, List, [], ◌∷◌, ◌++◌}
use Rattle.cbl_base.specs.declared.place.Place.{Place}
use Rattle.checked_tree.specs.declared.expressions.Slot.{Slot}
use Rattle.checked_tree.specs.Shape as shapes
use Rattle.checked_tree.specs.Shape.{Shape}
use Rattle.comet_meaning.specs.Values.{Number}
use Rattle.comet_meaning.specs.Outcome.{Act, ◌>>=◌, give, charge, each_in}
use Rattle.comet_meaning.specs.Cells.{put}
use Rattle.comet_meaning.specs.Levels.{Level}
use Rattle.comet_meaning.specs.Parts.{value}

-- the cell of a generator's name, and its value
pub record Bound : Type 0 where
  pub slot : Slot
  pub value : ℤ

abbrev pub with_bound : List Bound → Slot → ℤ → List Bound
with_bound known slot v = known ++ record { slot = slot; value = v } ∷ []

-- the names get their values
unfoldable pub bind : List Bound → Act (Unit {0})
bind [] = give tt
bind (b ∷ bs) = put b.slot (Number b.value) >>= λ _. bind bs

-- one more value: its unit, the names so far, and what it is given to
unfoldable pub generated : {A : Type 0} → Place → List Bound → Act A → Act A
generated at known next = do
  _ ← charge 1 at
  _ ← bind known
  next

-- what is done with each tuple behind these names, as long as what was made so far goes on; it is told the last
-- generator's value
unfoldable pub each_tuple : {A : Type 0} → Level → Place → (A → Bool) → (ℤ → A → Act A) → List Bound → List Shape → A → Act A
each_tuple l at more visit known (shapes.generator place slot domain ∷ []) x = do
  d ← value l domain
  each_in more (λ v y. generated at (with_bound known slot v) (visit v y)) d x
each_tuple l at more visit known (shapes.generator place slot domain ∷ g ∷ gs) x = do
  d ← value l domain
  each_in more (λ v y. generated place (with_bound known slot v) (each_tuple l at more visit (with_bound known slot v) (g ∷ gs) y)) d x
each_tuple l at more visit known gs x = give x
