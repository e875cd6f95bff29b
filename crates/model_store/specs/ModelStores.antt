-- A store of a model, and how what it answers agrees with the model. A rule of this project.
use Rattle.std.specs.Prelude.{◌≡◌, ℕ, ℤ, List, length, Result, Ok, Err, IsOk, IsErr, Vec}
use Rattle.cbl_base.specs.NodeLaw.{Rule}
use Rattle.cbl_base.specs.declared.ids.NodeId.{NodeId}
use Rattle.cbl_base.specs.declared.ids.VarId.{VarId}
use Rattle.cbl_base.specs.declared.input.Input.{Input}
use Rattle.graph_values.specs.Links.{AreAssigned, IsModelStop}
use Rattle.graph_values.specs.Members.{cells_of}
use Rattle.graph_values.specs.Outcomes.{IsGiven}
use Rattle.graph_values.specs.Totals.{HoldsModel, values_at}
use Rattle.inc_store.specs.Moves.{is_moved, moved_to}
use Rattle.inc_store.specs.Stores.{IsWithin}
use Rattle.inc_store.specs.Views.{IsUsable, first_of, graph_in, value_at}
use Rattle.inc_store.specs.declared.store.Store.{Store}
use Rattle.model_values.specs.Fresh.{Fresh}
use Rattle.model_values.specs.declared.failure.Failure.{Failure}
use Rattle.store_build.specs.Aims.{graph_over, start_of}
use Rattle.store_build.specs.Stops.{IsStop}
use Rattle.store_build.specs.declared.parts.StoreFault.{StoreFault}
use Rattle.store_build.specs.declared.parts.StoreFault.TheVariants.{Node, NoMemory}
use Rattle.store_turns.specs.Meaning.{uses_in}
use Rattle.model_store.specs.Settings.{Setting, numbers_in, users_in}

module _ {N : Type 0} where
  -- a store that can be used and holds the model, and whose free cells hold the assignment's numbers and the weights
  pub record IsStoreOf (rule : N → Rule) (held : N → List Input) (ready : N → Type 0) (setting : Setting) (s : Store N) : Type 0 where
    pub given : IsGiven setting.model setting.assignment
    pub usable : IsUsable rule held ready s
    pub cells : first_of s ≡ cells_of setting.model
    pub holds : HoldsModel (users_in setting) setting.model (graph_in rule s) setting.total
    pub assigned : AreAssigned (graph_in rule s) (numbers_in setting) (value_at s)

  -- the values that it has of the model's variables, systems and objectives
  abbrev pub values_in : Setting → Store N → Fresh
  values_in setting s = values_at setting.model setting.total (value_at s)

  -- the least id whose own operation fails though all its inputs have values, once free cells are moved
  abbrev pub StopsMoved : (N → Rule) → Store N → List (VarId × ℤ) → StoreFault → Type 0
  StopsMoved rule s ms stop = IsStop (graph_in rule s) (moved_to ms (value_at s)) stop

  -- from the steps before to those after are at most four times what moves of free cells touch
  abbrev pub AreFewSteps : (N → Rule) → Store N → List (VarId × ℤ) → ℕ → ℕ → Type 0
  AreFewSteps rule s ms before after =
      IsWithin (graph_in rule s) (value_at s) (moved_to ms (value_at s)) (is_moved ms) (uses_in s.frame) before after

-- a fault is the model's, at the place of its id
abbrev pub IsFaultOf : Setting → StoreFault → Type 0
IsFaultOf s stop = IsModelStop (users_in s) s.model s.assignment s.total stop

-- the least id whose own operation fails though all its inputs have values, over these numbers of the cells
abbrev pub StopsAt : {Z : Type 0} → List Rule → List ℤ → List (Vec NodeId Z) → StoreFault → Type 0
StopsAt rules start inputs stop = IsStop (graph_over rules (length start) inputs) (start_of start) stop

-- an answer is no fault exactly where the model has none, but where memory runs out
abbrev pub Agrees : {A : Type 0} → Result A StoreFault → Result Fresh Failure → Type 0
Agrees (Ok a) fresh = IsOk fresh
Agrees (Err (Node node fault)) fresh = IsErr fresh
Agrees (Err NoMemory) fresh = Unit {0}
