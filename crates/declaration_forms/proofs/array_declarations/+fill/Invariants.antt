use Rattle.std.proofs.Common.{◌+◌, ◌*◌, ℤ, List, map, length, ◌-ℤ◌, option_map}
use Rattle.checked_tree.specs.Shape.{seen}
use Rattle.comet_meaning.specs.Program.{level}
use Rattle.run_steps.specs.OfRunState.Views.{state_seen}
use Rattle.std.specs.Prelude.{nat_abs}
use Rattle.std.specs.Option.{option_copied}
use Rattle.comet_meaning.specs.Declarations.{next_cell}
use Rattle.run_effects.specs.Extents.{along, extent_seen}
use Rattle.run_effects.proofs.Filling.{AlongLeft}
use Rattle.declaration_forms.proofs.array_declarations.+fill.Given as goal

abbrev pub decreases-fill : goal.decreases-fill
decreases-fill g l = 3 * length l.extents.now + 12

abbrev pub decreases-fill_at : goal.decreases-fill_at
decreases-fill_at g l = 3 * length l.later.now + 13

abbrev pub decreases-fill_along : goal.decreases-fill_along
decreases-fill_along g l = 3 * length l.later.now + 14

-- the indices that are left, from here, give what all give
abbrev pub invariant-fill_along-indices : goal.invariant-fill_along-indices
invariant-fill_along-indices g l =
    (is : List ℤ) → AlongLeft (next_cell (level (g.W.Within.code l.inside) (g.W.Within.depth l.inside)) l.at (option_map seen (option_copied l.value))) l.extent.slot (map extent_seen l.later) is l.index l.extent.bounds.up l.filled.items (state_seen l.s (g.O.Outside.told l.out)) (along (next_cell (level (g.W.Within.code l.inside) (g.W.Within.depth l.inside)) l.at (option_map seen (option_copied l.value))) (extent_seen l.extent) (map extent_seen l.later) is l.fn.numbers.items (state_seen l.fn.s (g.O.Outside.told l.fn.out)))

abbrev pub decreases-fill_along-indices : goal.decreases-fill_along-indices
decreases-fill_along-indices g l = nat_abs (l.extent.bounds.up -ℤ l.index)
