use Rattle.std.proofs.Common.{[], map}
use Rattle.comet_meaning.specs.Program.{level}
use Rattle.comet_meaning.proofs.Rows.{DimensionsLeft}
use Rattle.run_steps.specs.OfRunState.Views.{state_seen}
use Rattle.checked_tree.specs.Actions.{dimension_of}
use Rattle.comet_meaning.specs.Declarations.{dimensions_form}
use Rattle.run_effects.specs.Extents.{extent_seen}
use Rattle.declaration_forms.proofs.array_declarations.extents_of.Given as goal

-- the dimensions that are left, from here, give what all give
abbrev pub invariant-loop-dimension : goal.invariant-loop-dimension
invariant-loop-dimension g l =
    DimensionsLeft (level (g.W.Within.code l.inside) (g.W.Within.depth l.inside)) dimension_of l.dimensions l.dimension-index (map extent_seen l.extents.items) (state_seen l.s (g.O.Outside.told l.out)) (dimensions_form (level (g.W.Within.code l.inside) (g.W.Within.depth l.inside)) (map dimension_of l.dimensions) [] (state_seen l.fn.s (g.O.Outside.told l.fn.out)))
