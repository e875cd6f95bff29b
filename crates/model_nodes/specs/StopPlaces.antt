-- The place of the fault by which a store of a model can't be built. A rule of this project.
use Rattle.std.specs.Prelude.{◌<◌, ◌≤◌}
use Rattle.store_build.specs.declared.parts.StoreFault.{StoreFault}
use Rattle.store_build.specs.declared.parts.StoreFault.TheVariants.{Node, NoMemory}
use Rattle.store_laws.specs.ModelTouch.{many_nodes}
use Rattle.term_model.specs.declared.model.Model.{Model}
use Rattle.graph_values.specs.Members.{cells_of}

-- it is a node's, and no cell's
abbrev pub IsBehind : Model → StoreFault → Type 0
IsBehind M (Node node fault) = (cells_of M ≤ node.0) × (node.0 < many_nodes M)
IsBehind M NoMemory = Unit {0}
