-- The functions of the language, outside terms: arguments from the left, then a unit for the call, and then its value.
-- A constraint has no value here. From the language.
use Rattle.std.specs.Prelude.{pos, List, [], ◌∷◌, length, nat_abs}
use Rattle.std.specs.Int.{int_min, int_max}
use Rattle.cbl_base.specs.Arithmetic.{exact}
use Rattle.cbl_base.specs.Sets.{is_member}
use Rattle.cbl_base.specs.declared.place.Place.{Place}
use Rattle.cbl_operations.specs.TwoSets.{two_sets_value}
use Rattle.cbl_operations.specs.declared.two_sets.TwoSetsOp.TheVariants.{Union, Inter, Minus}
use Rattle.checked_tree.specs.declared.expressions.Builtin.{Builtin}
use Rattle.checked_tree.specs.declared.expressions.Builtin.TheVariants as builtins
use Rattle.checked_tree.specs.Shape.{Shape}
use Rattle.comet_meaning.specs.Values.{Value, Nothing, Number, Truth, Set, number_of, members_of}
use Rattle.comet_meaning.specs.Outcome.{Act, ◌>>=◌, give, give_or, charge}
use Rattle.comet_meaning.specs.Levels.{Level}
use Rattle.comet_meaning.specs.Parts.{values}
use Rattle.comet_meaning.specs.Arrays.{count_form}

abbrev pub builtin_value : Place → Builtin → List Value → Act Value
builtin_value at builtins.Abs (x ∷ []) = give_or at (exact (pos (nat_abs (number_of x)))) >>= λ z. give (Number z)
builtin_value at builtins.Min (x ∷ y ∷ []) = give (Number (int_min (number_of x) (number_of y)))
builtin_value at builtins.Max (x ∷ y ∷ []) = give (Number (int_max (number_of x) (number_of y)))
builtin_value at builtins.Card (s ∷ []) = give (Number (pos (length (members_of s))))
builtin_value at builtins.Member (x ∷ s ∷ []) = give (Truth (is_member (number_of x) (members_of s)))
builtin_value at builtins.Union (s ∷ t ∷ []) = give (Set (two_sets_value Union (members_of s) (members_of t)))
builtin_value at builtins.Inter (s ∷ t ∷ []) = give (Set (two_sets_value Inter (members_of s) (members_of t)))
builtin_value at builtins.Minus (s ∷ t ∷ []) = give (Set (two_sets_value Minus (members_of s) (members_of t)))
builtin_value at f vs = give Nothing

unfoldable pub builtin_form : Level → Place → Builtin → List Shape → Act Value
builtin_form l at builtins.Count (a ∷ e ∷ []) = count_form l at a e
builtin_form l at f es = do
  vs ← values l es []
  _ ← charge 1 at
  builtin_value at f vs
