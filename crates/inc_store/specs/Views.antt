-- A store as its callers see it: what it computes, and the value of each id.
use Rattle.std.specs.Prelude.{◌≡◌, ℕ, true, List, length, map, All, IsTrue, Vec}
use Rattle.cbl_base.specs.NodeLaw.{Rule}
use Rattle.cbl_base.specs.declared.input.Input.{Input}
use Rattle.std.specs.declared.alloc.Global.{Global}
use Rattle.store_turns.specs.Cones.{has_cone}
use Rattle.store_turns.specs.declared.frame.Cone.{Cone}
use Rattle.store_turns.specs.declared.frame.Frame.{Frame}
use Rattle.store_turns.specs.Meaning.{Graph, graph_of, inputs_in}
use Rattle.store_build.specs.Frames.{cell_of}
use Rattle.store_build.specs.Kept.{IsKept}
use Rattle.inc_store.specs.declared.store.Store.{Store}

-- the frame with these cones
abbrev pub with_cones : Frame → Vec Cone Global → Frame
with_cones frame cones = record { first = frame.first; inputs = frame.inputs; layers = frame.layers; uses = frame.uses; cones = cones }

module _ {N : Type 0} where
  -- how many ids there are, and the first behind the cells
  abbrev pub count_of : Store N → ℕ
  count_of s = length s.frame.inputs.items

  abbrev pub first_of : Store N → ℕ
  first_of s = s.frame.first

  -- the ids whose values an id takes, and the value of an id
  abbrev pub inputs_at : Store N → ℕ → List ℕ
  inputs_at s id = inputs_in s.frame id

  abbrev pub value_at : Store N → ℕ → Input
  value_at s id = cell_of s.cells id

  -- the rules of its nodes, and its graph
  abbrev pub rules_in : (N → Rule) → Store N → List Rule
  rules_in rule s = map rule s.nodes.items

  abbrev pub graph_in : (N → Rule) → Store N → Graph
  graph_in rule s = graph_of (rules_in rule s) s.frame

  -- it can be used: each id has the value that its operation gives of its inputs' values
  abbrev pub IsUsable : (N → Rule) → (N → List Input) → (N → Type 0) → Store N → Type 0
  IsUsable rule held ready s = (s.is_usable ≡ true) × All ready s.nodes.items × IsKept (rules_in rule s) (map held s.nodes.items) s.frame s.cells

  -- the nodes and how they hang together stay as they were
  abbrev pub KeepsNodes : (N → Rule) → Store N → Store N → Type 0
  KeepsNodes rule old new = (rules_in rule new ≡ rules_in rule old) × (new.frame ≡ old.frame)

  -- all stays as it was, but that the cones of more targets may be kept
  pub record KeepsAll (old new : Store N) : Type 0 where
    pub usable : new.is_usable ≡ old.is_usable
    pub nodes : new.nodes.items ≡ old.nodes.items
    pub cells : new.cells ≡ old.cells
    pub frame : new.frame ≡ with_cones old.frame new.frame.cones
    pub cones : (target : ℕ) → IsTrue (has_cone old.frame.cones.items target) → IsTrue (has_cone new.frame.cones.items target)
