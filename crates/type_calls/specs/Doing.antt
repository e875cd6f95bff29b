-- What a part does beyond giving a value, and where it may. From the language.
use Rattle.std.specs.Prelude.{ℕ, Bool, true, false, ◌&&◌, ◌||◌, List, Option, Some, None, if◌then◌else◌}
use Rattle.std.specs.List.{list_any}
use Rattle.cbl_base.specs.declared.place.Place.{Place}
use Rattle.checked_tree.specs.declared.stop.Cause.{Cause}
use Rattle.checked_tree.specs.declared.stop.Cause.TheVariants as cause
use Rattle.checked_tree.specs.declared.expressions.Slot.{Slot}
use Rattle.type_rules.specs.Rules.{is_pure}
use Rattle.type_scopes.specs.declared.effects.Doing.{Doing}
use Rattle.type_scopes.specs.declared.scope.Scope.{Scope}
use Rattle.type_scopes.specs.Effects.{with_doing}
use Rattle.type_scopes.specs.Names.{is_outside}
use Rattle.type_scopes.specs.State.{State, Outcome, Went, Refused, Check, refuse}

-- whether there is one
abbrev pub is_there : {A : Type 0} → Option A → Bool
is_there None = false
is_there (Some x) = true

-- why it may not be done here, of a part that writes through these cells
abbrev pub doing_fault : Scope → Doing → List Slot → Option Cause
doing_fault scope d roots =
    if d.impure && is_pure scope.context then Some cause.NotPure
    else (if d.not_in_term then Some cause.NotInTerm
    else (if (is_there scope.parall && d.global) || list_any (is_outside scope) roots then Some cause.WritesOuter
    else (if is_there scope.parall && d.forbidden then Some cause.NotInParall else None)))

-- what may not be done is refused, and what may is noted
abbrev pub done : Place → Option Cause → Doing → List Slot → Check (Unit {0})
done place (Some c) d roots = refuse place c
done place None d roots = λ s. Went tt (record s { effects = with_doing d roots s.effects })

-- it is done where it may, and noted for the function around it
unfoldable pub act_on : Place → Scope → Doing → List Slot → Check (Unit {0})
act_on place scope d roots = done place (doing_fault scope d roots) d roots
