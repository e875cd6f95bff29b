-- Methods: the object, the arguments from the left, a unit for the call at the method's name, and then what it does.
-- `restore` is a commit: handlers run behind it.
-- From the language.
use Rattle.std.specs.Prelude.{ℕ, ◌-◌, ℤ, pos, Bool, List, [], ◌∷◌, ◌++◌, length, nat_lt, if◌then◌else◌}
use Rattle.cbl_base.specs.Arithmetic.{exact}
use Rattle.cbl_base.specs.Sets.{is_member, with_member, without_member}
use Rattle.cbl_base.specs.declared.place.Place.{Place}
use Rattle.checked_tree.specs.declared.expressions.Method.{Method}
use Rattle.checked_tree.specs.declared.expressions.Method.TheVariants as methods
use Rattle.checked_tree.specs.Shape as shapes
use Rattle.checked_tree.specs.Shape.{Shape}
use Rattle.comet_meaning.specs.Values.{Value, Nothing, Number, Truth, Set, number_of, bounds_of, members_of, solver_of, size_of}
use Rattle.comet_meaning.specs.Outcome.{Act, ◌>>=◌, give, give_or, charge}
use Rattle.comet_meaning.specs.Cells.{count_cells, look, put}
use Rattle.comet_meaning.specs.Levels.{Level}
use Rattle.comet_meaning.specs.Parts.{value}
use Rattle.comet_meaning.specs.Data.{next_number}
use Rattle.comet_meaning.specs.Models.{close, domain_of}
use Rattle.comet_meaning.specs.Systems.{of_whole, whole_value, violations, assign_delta, swap_delta}
use Rattle.comet_meaning.specs.Posting.{post_constraint, post_part}
use Rattle.comet_meaning.specs.Draws.{draw}
use Rattle.comet_meaning.specs.Events.{run_queue}
use Rattle.comet_meaning.specs.Moves.{has_move, get_move}
use Rattle.comet_meaning.specs.Solutions.{restore}

-- a number that an object gives must fit
abbrev pub fitting_number : Place → ℤ → Act Value
fitting_number at z = give_or at (exact z) >>= λ x. give (Number x)

-- `insert` and `delete` write the set in the cell of a name

abbrev pub put_set : Shape → (List ℤ → List ℤ) → Act Value
put_set (shapes.typed start at kind moving (shapes.name slot)) f = do
  v ← look slot
  _ ← put slot (Set (f (members_of v)))
  give Nothing
put_set e f = give Nothing

-- all of them

-- what a method gives of its object's value and those of its arguments
unfoldable pub method_value : Place → Method → Shape → Value → List Value → Act Value
method_value at methods.Low o v vs = give (Number (bounds_of v).low)
method_value at methods.Up o v vs = give (Number (bounds_of v).up)
method_value at methods.RangeSize o v vs = fitting_number at (pos (size_of (bounds_of v)))
method_value at methods.Contains o v (x ∷ []) = give (Truth (is_member (number_of x) (members_of v)))
method_value at methods.SetSize o v vs = give (Number (pos (length (members_of v))))
method_value at methods.Insert o v (x ∷ []) = put_set o (with_member (number_of x))
method_value at methods.Delete o v (x ∷ []) = put_set o (without_member (number_of x))
method_value at methods.ArraySize o v vs = count_cells v >>= λ n. give (Number (pos n))
method_value at methods.ReadInt o v vs = next_number at v
method_value at methods.Close o v vs = close at (solver_of v)
method_value at methods.Domain o v vs = domain_of at v
method_value at methods.Violations o v vs = violations at v vs
method_value at methods.SystemAssignDelta o v vs = assign_delta at v vs
method_value at methods.SystemSwapDelta o v vs = swap_delta at v vs
method_value at methods.ObjectiveValue o v vs = of_whole (whole_value at) v
method_value at methods.ObjectiveEvaluation o v vs = of_whole (whole_value at) v
method_value at methods.ObjectiveAssignDelta o v vs = assign_delta at v vs
method_value at methods.ObjectiveSwapDelta o v vs = swap_delta at v vs
method_value at methods.Draw o v vs = draw at v
method_value at methods.HasMove o v vs = has_move v
method_value at methods.GetMove o v vs = get_move at v
method_value at methods.Restore o v vs = restore at v
method_value at m o v vs = give Nothing

-- the object's value; of a variable whose domain is asked the variable itself
unfoldable pub object_value : Level → Method → Shape → Act Value
object_value l methods.Domain o = l.expr o
object_value l m o = value l o

-- how many arguments, from the first, are variables themselves
abbrev pub variables_asked : Method → ℕ
variables_asked methods.Violations = 1
variables_asked methods.SystemAssignDelta = 1
variables_asked methods.SystemSwapDelta = 2
variables_asked methods.ObjectiveAssignDelta = 1
variables_asked methods.ObjectiveSwapDelta = 2
variables_asked m = 0

-- an argument: a variable itself, and else a value
unfoldable pub asked_value : Level → Bool → Shape → Act Value
asked_value l itself e = if itself then l.expr e else value l e

-- the arguments from the left, so many of them variables themselves, behind those before
unfoldable pub asked_values : Level → ℕ → List Shape → List Value → Act (List Value)
asked_values l n [] vs = give vs
asked_values l n (e ∷ es) vs = asked_value l (nat_lt 0 n) e >>= λ v. asked_values l (n - 1) es (vs ++ v ∷ [])

unfoldable pub called_form : Level → Place → Method → Shape → List Shape → Act Value
called_form l at m o es = do
  v ← object_value l m o
  vs ← asked_values l (variables_asked m) es []
  _ ← charge 1 at
  method_value at m o v vs

unfoldable pub restore_form : Level → Place → Shape → List Shape → Act Value
restore_form l at o es = do
  v ← called_form l at methods.Restore o es
  _ ← run_queue l at
  give v

unfoldable pub method_form : Level → Place → Method → Shape → List Shape → Act Value
method_form l at methods.Post o es = post_constraint l at o es
method_form l at methods.PostPart o es = post_part l at o es
method_form l at methods.Restore o es = restore_form l at o es
method_form l at m o es = called_form l at m o es
