-- Calls of functions: arguments from the left, then a unit for the call, and then the body in a frame of its own, whose
-- first cells are the parameters. An array or an object is handed over as it is. From the language.
use Rattle.std.specs.Prelude.{ℕ, Bool, false, List, [], ◌∷◌, ◌++◌, Option, Some, None, slice_get, slice_index_or, if◌then◌else◌}
use Rattle.cbl_base.specs.declared.place.Place.{Place}
use Rattle.checked_tree.specs.declared.kind.Kind.{Kind}
use Rattle.checked_tree.specs.declared.kind.Kind.TheVariants as kinds
use Rattle.checked_tree.specs.Shape.{Shape}
use Rattle.checked_tree.specs.Tasks.{Coded}
use Rattle.comet_meaning.specs.Values.{Value, Nothing, Row, as_kind, first_value}
use Rattle.comet_meaning.specs.Outcome.{Act, ◌>>=◌, give, charge}
use Rattle.comet_meaning.specs.Cells.{row_of, new_array, in_frame, in_scope}
use Rattle.comet_meaning.specs.Levels.{Code, Level, Flow, Next, Returned}
use Rattle.comet_meaning.specs.Parts.{value}

-- an argument of a parameter of this kind: a variable itself, and else its value
unfoldable pub argument_form : Level → Kind → Shape → Act Value
argument_form l kinds.Variable e = l.expr e
argument_form l kinds.SetVariable e = l.expr e
argument_form l k e = value l e >>= λ v. give (as_kind k v)

unfoldable pub arguments_form : Level → List Kind → List Shape → List Value → Act (List Value)
arguments_form l (k ∷ ks) (e ∷ es) vs = argument_form l k e >>= λ v. arguments_form l ks es (vs ++ v ∷ [])
arguments_form l ks es vs = give vs

-- numbers in a row become an array that the function may write
abbrev pub own_array : Value → Act Value
own_array (Row xs) = new_array (row_of xs)
own_array v = give v

abbrev pub own_arrays : List Value → List Value → Act (List Value)
own_arrays [] ws = give ws
own_arrays (v ∷ vs) ws = own_array v >>= λ w. own_arrays vs (ws ++ w ∷ [])

-- a pure function writes nothing, so that it needs no arrays of its own
abbrev pub handed : Bool → List Value → Act (List Value)
handed pure vs = if pure then give vs else own_arrays vs []

-- what a function of this kind gives, as its body ends
abbrev pub given : Kind → Flow → Value
given k (Returned (Some v)) = as_kind k v
given k (Returned None) = first_value k
given k Next = first_value k

-- the body, in a frame that holds the arguments
unfoldable pub body_form : Level → Coded → List Value → Act Value
body_form l f vs = in_scope (in_frame vs (l.stmt f.body >>= λ flow. give (given f.result flow)))

abbrev pub called : Level → Place → List Shape → Bool → Option Coded → Act Value
called l at es pure None = give Nothing
called l at es pure (Some f) = do
  vs ← arguments_form l f.parameters es []
  _ ← charge 1 at
  ws ← handed pure vs
  body_form l f ws

unfoldable pub call_form : Code → Level → Place → ℕ → List Shape → Act Value
call_form c l at f es = called l at es (slice_index_or c.pure f false) (slice_get c.functions f)
