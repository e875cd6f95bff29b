use Rattle.std.proofs.Common.{◌+◌, ◌*◌, map, length, ◌-ℤ◌, option_map}
use Rattle.std.specs.Prelude.{nat_abs}
use Rattle.checked_tree.specs.Actions.{variable_of}
use Rattle.comet_meaning.specs.Program.{level}
use Rattle.run_steps.specs.OfRunState.Views.{state_seen}
use Rattle.run_effects.specs.Extents.{along, extent_seen}
use Rattle.run_steps.specs.Operands.{variable_cell}
use Rattle.run_effects.proofs.Filling.{AlongLeft}
use Rattle.declaration_forms.proofs.variable_arrays.+make.Given as goal

abbrev pub decreases-make : goal.decreases-make
decreases-make g l = 3 * length l.extents.now + 12

abbrev pub decreases-make_at : goal.decreases-make_at
decreases-make_at g l = 3 * length l.later.now + 13

abbrev pub decreases-make_along : goal.decreases-make_along
decreases-make_along g l = 3 * length l.later.now + 14

-- the indices that are left, from here, give what all give
abbrev pub invariant-make_along-sides : goal.invariant-make_along-sides
invariant-make_along-sides g l =
    AlongLeft (variable_cell (level (g.W.Within.code l.inside) (g.W.Within.depth l.inside)) l.making.at (variable_of l.variable) l.making.decl (option_map (λ numbers. numbers.items) l.making.list)) l.extent.slot (map extent_seen l.later) l.indices l.index l.extent.bounds.up l.made.items (state_seen l.s (g.O.Outside.told l.out)) (along (variable_cell (level (g.W.Within.code l.inside) (g.W.Within.depth l.inside)) l.making.at (variable_of l.variable) l.making.decl (option_map (λ numbers. numbers.items) l.making.list)) (extent_seen l.extent) (map extent_seen l.later) l.indices l.fn.cells.items (state_seen l.fn.s (g.O.Outside.told l.fn.out)))

abbrev pub decreases-make_along-sides : goal.decreases-make_along-sides
decreases-make_along-sides g l = nat_abs (l.extent.bounds.up -ℤ l.index)
