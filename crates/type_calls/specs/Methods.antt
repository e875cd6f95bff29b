-- Calls of methods. From the language.
use Rattle.std.specs.Prelude.{ℕ, Bool, true, false, ◌&&◌, ◌||◌, List, [], ◌∷◌, ◌++◌, Option, Some, None, if◌then◌else◌}
use Rattle.cbl_base.specs.declared.place.Place.{Place}
use Rattle.checked_tree.specs.declared.expressions.Builtin.TheVariants as builtins
use Rattle.checked_tree.specs.declared.expressions.Method.{Method}
use Rattle.checked_tree.specs.declared.expressions.Method.TheVariants as methods
use Rattle.checked_tree.specs.declared.kind.Kind.TheVariants as kind
use Rattle.checked_tree.specs.declared.stop.Cause.{Cause}
use Rattle.checked_tree.specs.declared.stop.Cause.TheVariants as cause
use Rattle.checked_tree.specs.Shape as shapes
use Rattle.checked_tree.specs.Shape.{Shape, Seen, whole, wholes}
use Rattle.type_rules.specs.declared.context.Context.{Context}
use Rattle.type_rules.specs.declared.context.Context.TheVariants as context
use Rattle.type_rules.specs.declared.rows.Row.{Row}
use Rattle.type_rules.specs.declared.rows.Writes.{Writes}
use Rattle.type_rules.specs.declared.rows.Writes.TheVariants as writes
use Rattle.type_rules.specs.Kinds.{is_same}
use Rattle.type_rules.specs.Rows.{method_row, method_wants}
use Rattle.type_rules.specs.Rules.{is_term}
use Rattle.type_scopes.specs.declared.effects.Doing.{Doing}
use Rattle.type_scopes.specs.declared.names.Binding.{Binding}
use Rattle.type_scopes.specs.declared.scope.Scope.{Scope}
use Rattle.checked_tree.specs.declared.expressions.Slot.{Slot}
use Rattle.type_scopes.specs.Names.{solvers_of}
use Rattle.type_scopes.specs.State.{State, Outcome, Went, Refused, Check, give, refuse, then_do, ◌>>=◌}
use Rattle.type_calls.specs.Arguments.{any_moving, arguments_fault}
use Rattle.type_calls.specs.Doing.{act_on}
use Rattle.type_calls.specs.Roots.{roots_of, is_name}

-- what the first argument stands for
abbrev pub first_context : Option Method → Context → Context
first_context (Some methods.Post) c = context.Posted
first_context (Some methods.PostPart) c = context.Term
first_context m c = c

-- whether it is a user's constraint
abbrev pub is_user : Shape → Bool
is_user (shapes.builtin builtins.User es) = true
is_user f = false

-- whether the first argument is a user's constraint
abbrev pub posts_user : List Seen → Bool
posts_user [] = false
posts_user (e ∷ es) = is_user e.form

-- what the call does: what its method does, where nothing is frozen in a term and no `parall` posts a user's constraint
abbrev pub method_doing : Row → Scope → Seen → List Seen → Doing
method_doing r scope front es = record {
  impure = r.impure;
  not_in_term = is_term scope.context && (r.left_out || (front.moving || any_moving es));
  global = false;
  through = true;
  forbidden = r.forbidden || posts_user es;
}

-- the names through which a solution is reached, and its solvers
abbrev pub solution_roots : Scope → List Binding → Shape → List Slot
solution_roots scope names e = roots_of e ++ solvers_of scope names (roots_of e)

-- of a name its own cell is written, which for a parameter is no write through it
abbrev pub method_done : Writes → Place → Scope → Doing → Seen → Check (Unit {0})
method_done writes.Nothing place scope d front = act_on place scope d []
method_done writes.Object place scope d front = act_on place scope d (roots_of (whole front))
method_done writes.Solver place scope d front =
    λ s. act_on place scope d (solution_roots scope s.names (whole front)) s
method_done writes.Name place scope d front =
    if is_name front.form && is_same front.kind kind.Set
    then act_on place scope (record d { through = false }) (roots_of (whole front))
    else (act_on place scope d [] >>= λ _. refuse place cause.NotAssignable)

-- a call of the method, whose arguments are not refused
abbrev pub method_made : Place → Seen → Scope → List Seen → Method → Option Cause → Check Seen
method_made place front scope es m (Some c) = refuse place c
method_made place front scope es m None =
    method_done (method_row m).writes place scope (method_doing (method_row m) scope front es) front >>= λ _.
    give (record { start = front.start; place = place; kind = (method_row m).result; moving = false; form = shapes.method m (whole front) (wholes es) })

-- why a name that is no method of it is refused
abbrev pub unknown_method : Context → Bool → Cause
unknown_method c m = if is_term c && m then cause.NotInTerm else cause.UnknownMethod

-- a call of the method of this name, if there is one
abbrev pub method_called_as : Place → Seen → Scope → List Seen → Option Method → Check Seen
method_called_as place front scope es None =
    refuse place (unknown_method scope.context (front.moving || any_moving es))
method_called_as place front scope es (Some m) =
    method_made place front scope es m (arguments_fault (method_wants m) (method_row m).least es)

-- a call of a method
unfoldable pub method_called : Place → Seen → Scope → List Seen → Option Method → Check Seen
method_called place front scope es m = method_called_as place front scope es m
