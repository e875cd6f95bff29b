use Rattle.std.proofs.Common.{◌≡◌, ◌<◌, ℕ, Some, length, slice_get, take}
use Rattle.term_model.specs.Definitions.{definition_in}
use Rattle.term_model.proofs.definitions.definitions_of.Given as goal

abbrev pub invariant-loop-turn : goal.invariant-loop-turn
invariant-loop-turn l =
    (length l.table.items ≡ length l.model.vars.items)
    × ((i : ℕ) → i < length l.model.vars.items → slice_get l.table.items i ≡ Some (definition_in l.model.defs.items (take l.turn l.model.posted.items) i))
