use Rattle.std.proofs.Common.{◌≡◌, map, drop}
use Rattle.checked_tree.specs.Actions.{dimension_of}
use Rattle.comet_meaning.specs.Built.{are_sizes}
use Rattle.program_forms.proofs.actions.are_built_dimensions.Given as goal

-- what is left decides the whole
abbrev pub invariant-loop-dimension : goal.invariant-loop-dimension
invariant-loop-dimension l = are_sizes (map dimension_of (drop l.dimension-index l.dimensions)) ≡ are_sizes (map dimension_of l.dimensions)
