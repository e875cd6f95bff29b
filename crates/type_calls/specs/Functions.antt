-- Calls by name: a function of the program that is visible under the name, else one of the language. From the language.
use Rattle.std.specs.Prelude.{ℕ, Bool, true, false, not, ◌||◌, ◌==◌, List, [], length, slice_get, Option, Some, None, if◌then◌else◌}
use Rattle.cbl_base.specs.declared.place.Place.{Place}
use Rattle.comet_syntax.specs.declared.tree.expressions.Name.{Name}
use Rattle.checked_tree.specs.declared.expressions.Slot.{Slot}
use Rattle.checked_tree.specs.declared.kind.Kind.{Kind}
use Rattle.checked_tree.specs.declared.kind.Kind.TheVariants as kind
use Rattle.checked_tree.specs.declared.stop.Cause.{Cause}
use Rattle.checked_tree.specs.declared.stop.Cause.TheVariants as cause
use Rattle.checked_tree.specs.Shape as shapes
use Rattle.checked_tree.specs.Shape.{Seen, wholes}
use Rattle.type_rules.specs.Kinds.{is_same}
use Rattle.type_rules.specs.Rows.{builtin_named}
use Rattle.type_scopes.specs.declared.effects.Doing.{Doing}
use Rattle.type_scopes.specs.declared.effects.Signature.{Signature}
use Rattle.type_scopes.specs.declared.names.Found.{Found}
use Rattle.type_scopes.specs.declared.scope.Scope.{Scope}
use Rattle.type_scopes.specs.Names.{look}
use Rattle.type_scopes.specs.State.{State, Outcome, Went, Refused, Check, give, refuse, then_do, ◌>>=◌}
use Rattle.type_calls.specs.Arguments.{any_moving, all_fit}
use Rattle.type_calls.specs.Builtins.{builtin_called}
use Rattle.type_calls.specs.Doing.{act_on}
use Rattle.type_calls.specs.Roots.{written_roots}

-- why the arguments of a function with these parameters are refused, if they are
abbrev pub function_fault : List Kind → List Seen → Option Cause
function_fault ks es =
    if length ks == length es then (if all_fit ks es then None else Some cause.WrongType) else Some cause.WrongCount

-- what the call does: in a pure expression only a function of one pure `return` may be called
abbrev pub call_doing : Signature → List Seen → Doing
call_doing g es = record {
  impure = not g.is_single || g.effects.impure;
  not_in_term = any_moving es;
  global = g.effects.writes_global;
  through = true;
  forbidden = g.effects.forbidden;
}

-- a call: what it gives, what it does, and through which names it writes
pub record Calling : Type 0 where
  pub result : Kind
  pub doing : Doing
  pub roots : List Slot

-- a call whose arguments are not refused
abbrev pub call_so : Place → Signature → List Seen → Option Cause → Check Calling
call_so place g es (Some c) = refuse place c
call_so place g es None = give (record { result = g.result; doing = call_doing g es; roots = written_roots 0 g.effects.written es })

-- a call of the function with this signature, if there is one
abbrev pub call_of : Place → List Seen → Option Signature → Check Calling
call_of place es None = refuse place cause.UnknownName
call_of place es (Some g) = call_so place g es (function_fault g.parameters es)

-- what the call does is done where it may, and the call is what the function gives
abbrev pub called_so : Name → Scope → List Seen → ℕ → Calling → Check Seen
called_so n scope es f c =
    act_on n.place scope c.doing c.roots >>= λ _.
    give (record { start = n.place; place = n.place; kind = c.result; moving = false; form = shapes.call f (wholes es) })

-- a call of the function with this number
unfoldable pub function_called : Name → Scope → List Seen → ℕ → Check Seen
function_called n scope es f = λ s. (call_of n.place es (slice_get s.signatures f) >>= λ c. called_so n scope es f c) s

-- a function that is visible under the name, else one of the language, else no function
abbrev pub called_as : Name → Scope → List Seen → Option Found → Check Seen
called_as n scope es None = builtin_called n.place scope es false (builtin_named n.text)
called_as n scope es (Some f) =
    if is_same f.kind kind.Function then function_called n scope es f.function
    else builtin_called n.place scope es true (builtin_named n.text)

-- a call by name
unfoldable pub called : Name → Scope → List Seen → Check Seen
called n scope es = λ s. called_as n scope es (look n.text s.names) s
