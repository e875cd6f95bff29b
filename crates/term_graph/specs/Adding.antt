-- One term more in a graph: what is asked of it, what is then known of it, and what stays. A rule of this project.
use Rattle.std.specs.Prelude.{◌≡◌, ℕ, ℤ, pos, negsuc, ◌+◌, ◌-◌, ◌<◌, true, List, ◌++◌, length, map, nat_lt, cond, All, Vec}
use Rattle.std.specs.List.{list_all}
use Rattle.std.specs.declared.alloc.Global.{Global}
use Rattle.cbl_base.specs.declared.ids.NodeId.{NodeId}
use Rattle.cbl_base.specs.declared.place.Place.{Place}
use Rattle.cbl_operations.specs.declared.op.Op.{Op}
use Rattle.term_count.specs.Codes.{IsNode, code_among, is_known}
use Rattle.term_count.specs.Numbering.{listed}
use Rattle.term_graph.specs.Graphs.{AreNodesOf}
use Rattle.term_graph.specs.Ids.{HasCells, id_among, ids_of}
use Rattle.term_graph.specs.declared.graph.Graph.{Graph}
use Rattle.term_graph.specs.declared.node.Node.{Node}
use Rattle.term_model.specs.Subterms.{arguments_of}
use Rattle.term_model.specs.declared.term.Term.{Term}
use Rattle.term_model.specs.declared.term.Term.TheViews.{Node as Operation, out-Term}

-- the name in codes of what has this id
abbrev pub name_of_id : ℕ → ℕ → ℤ
name_of_id cells id = cond (nat_lt id cells) (negsuc id) (pos (id - cells))

-- a list has another one in front
abbrev pub Grows : {A : Type 0} → List A → List A → Type 0
Grows {A} old new = (more : List A) × (new ≡ old ++ more)

-- so a graph is when terms were added, some of them only in part
pub record IsGrown (old new : Graph) : Type 0 where
  pub cells : new.cells ≡ old.cells
  pub codes : Grows old.codes.keys new.codes.keys
  pub nodes : Grows old.nodes.items new.nodes.items

-- a term that isn't a variable, whose arguments stand there, with its code and the ids of its arguments
pub record Fits (cells : ℕ) (codes : List (List ℤ)) (nodes : List Node) (ts : List Term) (t : Term) (code : List ℤ) (inputs : List NodeId) : Type 0 where
  pub graph : AreNodesOf cells codes nodes ts
  pub own : IsNode (out-Term t)
  pub args : list_all (is_known ts) (arguments_of (out-Term t)) ≡ true
  pub coded : code ≡ code_among ts t
  pub named : ids_of inputs ≡ map (id_among cells ts) (arguments_of (out-Term t))
  pub earlier : All (λ input. input.0 < cells + length nodes) inputs

-- a term stands among these, with this id
pub record Stands (cells : ℕ) (codes : List (List ℤ)) (nodes : List Node) (ts : List Term) (t : Term) (id : ℕ) : Type 0 where
  pub graph : AreNodesOf cells codes nodes ts
  pub at : id ≡ id_among cells ts t
  pub known : is_known ts t ≡ true

-- the same of all of these terms
pub record StandAll (cells : ℕ) (codes : List (List ℤ)) (nodes : List Node) (ts us : List Term) (ids : List NodeId) : Type 0 where
  pub graph : AreNodesOf cells codes nodes ts
  pub at : ids_of ids ≡ map (id_among cells ts) us
  pub known : list_all (is_known ts) us ≡ true

-- an operation of arguments that stand there with these ids
pub record Takes (cells : ℕ) (codes : List (List ℤ)) (nodes : List Node) (ts : List Term) (t : Term) (op : Op) (ids : List NodeId) : Type 0 where
  pub args : Vec Term Global
  pub place : Place
  pub is : t ≡ Operation op args place
  pub below : All (HasCells cells) args.items
  pub all : StandAll cells codes nodes ts args.items ids
  pub earlier : All (λ input. input.0 < cells + length nodes) ids

-- the same of a graph's codes and nodes
abbrev pub FitsIn : Graph → List Term → Term → List ℤ → List NodeId → Type 0
FitsIn graph ts t code inputs = Fits graph.cells (listed graph.codes.keys) graph.nodes.items ts t code inputs

abbrev pub TakesIn : Graph → List Term → Term → Op → List NodeId → Type 0
TakesIn graph ts t op ids = Takes graph.cells (listed graph.codes.keys) graph.nodes.items ts t op ids

abbrev pub StandsIn : ℕ → Graph → List Term → Term → NodeId → Type 0
StandsIn cells graph ts t id = Stands cells (listed graph.codes.keys) graph.nodes.items ts t id.0
