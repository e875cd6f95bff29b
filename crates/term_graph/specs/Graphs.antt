-- The graph of distinct terms behind so many cells: the i-th node behind the cells is that of the i-th term. It has
-- that term's head and place, and as inputs the ids of its arguments, in order, each smaller than its own id. A rule
-- of this project.
use Rattle.std.specs.Prelude.{◌≡◌, ℕ, ℤ, ◌+◌, ◌-◌, ◌<◌, ◌≤◌, List, length, map, Some, slice_get, All}
use Rattle.cbl_base.specs.declared.ids.NodeId.{NodeId}
use Rattle.cbl_base.specs.declared.limits.TheConstants.{MAX_TERM_NODES}
use Rattle.term_count.specs.Numbering.{IsNumbered, listed}
use Rattle.term_graph.specs.Heads.{head_of, IsPlaceOf}
use Rattle.term_graph.specs.Ids.{id_among, ids_of}
use Rattle.term_graph.specs.declared.graph.Graph.{Graph}
use Rattle.term_graph.specs.declared.node.Node.{Node}
use Rattle.term_graph.specs.declared.stop.GraphStop.{GraphStop}
use Rattle.term_graph.specs.declared.stop.GraphStop.TheVariants.{TooMany, NoMemory}
use Rattle.term_model.specs.Subterms.{arguments_of}
use Rattle.term_model.specs.declared.term.Term.{Term}
use Rattle.term_model.specs.declared.term.Term.TheViews.{out-Term}

-- a node is that of a term among others, with what the term says itself and the ids of its arguments
pub record IsNodeOf (cells : ℕ) (ts : List Term) (t : Term) (node : Node) : Type 0 where
  pub head : head_of t ≡ Some node.head
  pub place : IsPlaceOf t node.place
  pub inputs : ids_of node.inputs.items ≡ map (id_among cells ts) (arguments_of (out-Term t))

-- the nodes are those of the terms, one by one and no more than the limit, and the codes are theirs
pub record AreNodesOf (cells : ℕ) (codes : List (List ℤ)) (nodes : List Node) (ts : List Term) : Type 0 where
  pub numbered : IsNumbered codes ts
  pub count : length nodes ≡ length ts
  pub few : length ts ≤ MAX_TERM_NODES
  pub each : (i : ℕ) (t : Term) (node : Node) → slice_get ts i ≡ Some t → slice_get nodes i ≡ Some node → IsNodeOf cells ts t node
  pub earlier : (i : ℕ) (node : Node) → slice_get nodes i ≡ Some node → All (λ input. input.0 < cells + i) node.inputs.items

-- so a graph keeps them
abbrev pub IsGraphOf : Graph → List Term → Type 0
IsGraphOf graph ts = AreNodesOf graph.cells (listed graph.codes.keys) graph.nodes.items ts

-- the first id behind all nodes
abbrev pub end_of : Graph → ℕ
end_of graph = graph.cells + length graph.nodes.items

-- an id behind the cells, of a node that is there
abbrev pub HasNode : Graph → NodeId → Type 0
HasNode graph node = (graph.cells ≤ node.0) × (node.0 < end_of graph)

-- the place of a node from 0
abbrev pub place_in : Graph → NodeId → ℕ
place_in graph node = node.0 - graph.cells

-- a term isn't added where there would then be these terms: too many, unless memory runs out
abbrev pub StopsAt : List Term → GraphStop → Type 0
StopsAt ts TooMany = MAX_TERM_NODES < length ts
StopsAt ts NoMemory = Unit {0}
