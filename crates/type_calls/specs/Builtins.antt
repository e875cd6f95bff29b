-- Calls of the functions of the language and of constraints. From the language.
use Rattle.std.specs.Prelude.{ℕ, Bool, true, false, not, ◌&&◌, ◌||◌, List, Option, Some, None, Ok, Err, if◌then◌else◌}
use Rattle.cbl_base.specs.declared.place.Place.{Place}
use Rattle.checked_tree.specs.declared.expressions.Builtin.{Builtin}
use Rattle.checked_tree.specs.declared.expressions.Builtin.TheVariants as builtins
use Rattle.checked_tree.specs.declared.kind.Kind.TheVariants as kind
use Rattle.checked_tree.specs.declared.stop.Cause.{Cause}
use Rattle.checked_tree.specs.declared.stop.Cause.TheVariants as cause
use Rattle.checked_tree.specs.Shape as shapes
use Rattle.checked_tree.specs.Shape.{Seen, wholes}
use Rattle.type_rules.specs.declared.context.Context.{Context}
use Rattle.type_rules.specs.declared.context.Context.TheVariants as context
use Rattle.type_rules.specs.Kinds.{is_same}
use Rattle.type_rules.specs.Rows.{builtin_row, builtin_wants}
use Rattle.type_rules.specs.Rules.{Ruling, with_moving, is_term, wants_constraint}
use Rattle.type_scopes.specs.declared.scope.Scope.{Scope}
use Rattle.type_scopes.specs.State.{Check, refuse}
use Rattle.type_calls.specs.Arguments.{any_moving, any_unfixed, arguments_fault, made}

-- whether it may stand here
abbrev pub may_stand : Builtin → Context → Bool
may_stand builtins.User context.Posted = true
may_stand builtins.User c = false
may_stand b c = not (is_same (builtin_row b).result kind.Constraint) || wants_constraint c

-- what is kept as a field holds no incremental variable; a constraint counts as one that holds some
abbrev pub builtin_made : Builtin → List Seen → Option Cause → Ruling
builtin_made b es (Some c) = Err c
builtin_made b es None =
    if any_unfixed (builtin_wants b) es then Err cause.NotInTerm
    else with_moving (builtin_row b).result (is_same (builtin_row b).result kind.Constraint || any_moving es)

-- why it may not stand here
abbrev pub not_here : Context → Cause
not_here c = if is_term c then cause.NotInTerm else cause.WrongType

-- it may stand here, and its arguments are what it asks for
unfoldable pub builtin_rule : Builtin → Context → List Seen → Ruling
builtin_rule b c es =
    if may_stand b c then builtin_made b es (arguments_fault (builtin_wants b) (builtin_row b).least es)
    else Err (not_here c)

-- of a name that is none of these: another visible name is no function
abbrev pub unknown : Bool → Cause
unknown visible = if visible then cause.WrongType else cause.UnknownName

-- a call of the function of this name, if there is one
abbrev pub builtin_called : Place → Scope → List Seen → Bool → Option Builtin → Check Seen
builtin_called place scope es visible None = refuse place (unknown visible)
builtin_called place scope es visible (Some b) = made place place (shapes.builtin b (wholes es)) (builtin_rule b scope.context es)
