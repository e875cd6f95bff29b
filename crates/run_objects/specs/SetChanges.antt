-- `insert` and `delete`, of the set in a name's cell. From the language.
use Rattle.std.specs.Prelude.{ℤ, List}
use Rattle.checked_tree.specs.declared.expressions.Slot.{Slot}
use Rattle.comet_meaning.specs.Values.{Value, Nothing, Set, members_of}
use Rattle.comet_meaning.specs.Outcome.{Act, ◌>>=◌, give}
use Rattle.comet_meaning.specs.Cells.{look, put}

abbrev pub set_changed : Slot → (List ℤ → List ℤ) → Act Value
set_changed slot f = do
  v ← look slot
  _ ← put slot (Set (f (members_of v)))
  give Nothing
