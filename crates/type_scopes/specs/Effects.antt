-- What a part does beyond giving a value, and what a function's effects are. From the language.
use Rattle.std.specs.Prelude.{ℕ, Bool, true, false, not, ◌&&◌, ◌||◌, List, [], ◌∷◌, length, slice_set, Option, Some, None, nat_lt, nat_eq, if◌then◌else◌}
use Rattle.std.specs.List.{list_any}
use Rattle.std.proofs.Math.ListN.{replicate}
use Rattle.std.specs.Cmp.Lexicographic.{pointwise}
use Rattle.std.proofs.Math.Bool.{beq}
use Rattle.checked_tree.specs.declared.expressions.Slot.{Slot}
use Rattle.checked_tree.specs.declared.expressions.Slot.TheVariants.{Global, Local}
use Rattle.type_scopes.specs.declared.effects.Doing.{Doing}
use Rattle.type_scopes.specs.declared.effects.Effects.{Effects}
use Rattle.type_scopes.specs.declared.effects.Signature.{Signature}

-- whether a cell is one of the global names
abbrev pub is_global : Slot → Bool
is_global (Global i) = true
is_global (Local j) = false

-- no parameter is written through
abbrev pub no_flags : ℕ → List Bool
no_flags n = replicate n false

-- the parameter that a cell is, if it is one, is written through
abbrev pub marked : Slot → List Bool → List Bool
marked (Global i) flags = flags
marked (Local j) flags = if nat_lt j (length flags) then slice_set flags j true else flags

-- the parameters that these cells are, are written through
abbrev pub all_marked : List Slot → List Bool → List Bool
all_marked [] flags = flags
all_marked (s ∷ ss) flags = all_marked ss (marked s flags)

-- of a function with so many parameters, before its body
abbrev pub no_effects : ℕ → Effects
no_effects n = record { impure = false; writes_global = false; written = no_flags n; forbidden = false }

-- the effects, and what a part does that writes through these cells
abbrev pub with_doing : Doing → List Slot → Effects → Effects
with_doing d roots e = record {
  impure = e.impure || d.impure;
  writes_global = e.writes_global || (d.global || list_any is_global roots);
  written = if d.through then all_marked roots e.written else e.written;
  forbidden = e.forbidden || d.forbidden;
}

-- whether the same parameters are written through
abbrev pub same_flags : List Bool → List Bool → Bool
same_flags fs gs = pointwise beq fs gs

-- whether two functions' effects are the same
abbrev pub same_effects : Effects → Effects → Bool
same_effects a b =
    beq a.impure b.impure && (beq a.writes_global b.writes_global && (beq a.forbidden b.forbidden && same_flags a.written b.written))
