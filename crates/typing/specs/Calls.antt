-- Typing rules of calls whose arguments are typed: what is called, what it gives, and what is known then.
use Rattle.std.specs.Prelude.{◌≡◌, Bool, true, false, ◌&&◌, List, [], slice_get, Option, Some, None, Ok}
use Rattle.cbl_base.specs.declared.place.Place.{Place}
use Rattle.comet_syntax.specs.declared.tree.expressions.Name.{Name}
use Rattle.checked_tree.specs.declared.expressions.Builtin.{Builtin}
use Rattle.checked_tree.specs.declared.expressions.Method.{Method}
use Rattle.checked_tree.specs.declared.expressions.Slot.{Slot}
use Rattle.checked_tree.specs.declared.kind.Kind.{Kind}
use Rattle.checked_tree.specs.declared.kind.Kind.TheVariants as kind
use Rattle.checked_tree.specs.Shape as shapes
use Rattle.checked_tree.specs.Shape.{Shape, Seen, whole, wholes}
use Rattle.type_rules.specs.declared.kinds.Note.{Note}
use Rattle.type_rules.specs.declared.rows.Writes.{Writes}
use Rattle.type_rules.specs.declared.rows.Writes.TheVariants as writes
use Rattle.type_rules.specs.Kinds.{is_same}
use Rattle.type_rules.specs.Rows.{builtin_named, method_named, method_row, method_wants}
use Rattle.type_scopes.specs.declared.effects.Doing.{Doing}
use Rattle.type_scopes.specs.declared.effects.Signature.{Signature}
use Rattle.type_scopes.specs.declared.names.Found.{Found}
use Rattle.type_scopes.specs.declared.scope.Scope.{Scope}
use Rattle.type_scopes.specs.Effects.{with_doing}
use Rattle.type_scopes.specs.Names.{look}
use Rattle.type_scopes.specs.State.{State}
use Rattle.type_calls.specs.Arguments.{arguments_fault}
use Rattle.type_calls.specs.Builtins.{builtin_rule}
use Rattle.type_calls.specs.Doing.{doing_fault}
use Rattle.type_calls.specs.Functions.{function_fault, call_doing}
use Rattle.type_calls.specs.Methods.{method_doing, solution_roots}
use Rattle.type_calls.specs.Roots.{roots_of, written_roots, is_name}

-- an expression as its rule gives it, with its first token and its place
abbrev pub ruled : Place → Place → Shape → Note → Seen
ruled start place shape n = record { start = start; place = place; kind = n.kind; moving = n.moving; form = shape }

-- a value without incremental variables, with its first token and its place
abbrev pub given : Place → Place → Kind → Shape → Seen
given start place k shape = record { start = start; place = place; kind = k; moving = false; form = shape }

-- what is known when this was done, through these cells
abbrev pub having_done : Doing → List Slot → State → State
having_done d roots s = record s { effects = with_doing d roots s.effects }

-- whether a visible name is that of a function of the program
abbrev pub names_function : Option Found → Bool
names_function None = false
names_function (Some f) = is_same f.kind kind.Function

-- a call by name, of these arguments, is typed
pub data IsCalled (n : Name) (scope : Scope) (es : List Seen) (s : State) : Seen → State → Type 0 where
  -- the name is a function's, the arguments suit its parameters, and what it does may be done here
  a_function : {f : Found} {g : Signature}
      → look n.text s.names ≡ Some f
      → is_same f.kind kind.Function ≡ true
      → slice_get s.signatures f.function ≡ Some g
      → function_fault g.parameters es ≡ None
      → doing_fault scope (call_doing g es) (written_roots 0 g.effects.written es) ≡ None
      → IsCalled n scope es s (given n.place n.place g.result (shapes.call f.function (wholes es))) (having_done (call_doing g es) (written_roots 0 g.effects.written es) s)
  -- the name is no function's, and one of the language
  a_builtin : {b : Builtin} {note : Note}
      → names_function (look n.text s.names) ≡ false
      → builtin_named n.text ≡ Some b
      → builtin_rule b scope.context es ≡ Ok note
      → IsCalled n scope es s (ruled n.place n.place (shapes.builtin b (wholes es)) note) s

-- what a method writes may be written here, and is noted
pub data IsWritten (scope : Scope) (d : Doing) (front : Seen) (s : State) : Writes → State → Type 0 where
  writes_nothing :
      doing_fault scope d [] ≡ None
      → IsWritten scope d front s writes.Nothing (having_done d [] s)
  writes_object :
      doing_fault scope d (roots_of (whole front)) ≡ None
      → IsWritten scope d front s writes.Object (having_done d (roots_of (whole front)) s)
  -- of a solution the solvers, too
  writes_solver :
      doing_fault scope d (solution_roots scope s.names (whole front)) ≡ None
      → IsWritten scope d front s writes.Solver (having_done d (solution_roots scope s.names (whole front)) s)
  -- of a set that is named its own cell, which is no write through it
  writes_name :
      (is_name front.form && is_same front.kind kind.Set) ≡ true
      → doing_fault scope (record d { through = false }) (roots_of (whole front)) ≡ None
      → IsWritten scope d front s writes.Name (having_done (record d { through = false }) (roots_of (whole front)) s)

-- a call of a method, of these arguments, is typed: the kind of what stands before it has such a method, and the
-- arguments suit it
pub data IsMethodCalled (n : Name) (scope : Scope) (front : Seen) (es : List Seen) (s : State) : Seen → State → Type 0 where
  a_method : {m : Method} {t : State}
      → method_named front.kind n.text ≡ Some m
      → arguments_fault (method_wants m) (method_row m).least es ≡ None
      → IsWritten scope (method_doing (method_row m) scope front es) front s (method_row m).writes t
      → IsMethodCalled n scope front es s (given front.start n.place (method_row m).result (shapes.method m (whole front) (wholes es))) t
