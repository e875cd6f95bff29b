-- What a trial over a graph that holds a model tells of a system or an objective, and what the model says of it. A rule
-- of this project.
use Rattle.std.specs.Prelude.{◌≡◌, ◌≢◌, ◌⊎◌, ℕ, ℤ, ◌<◌, ◌≤◌, true, false, List, [], ◌∷◌, Result, Ok, Err, slice_index_or, pos}
use Rattle.cbl_base.specs.NumberRule.{NumberRule}
use Rattle.cbl_base.specs.declared.faults.RunFault.{RunFault}
use Rattle.cbl_base.specs.declared.ids.VarId.{VarId}
use Rattle.cbl_base.specs.declared.place.Place.{Place}
use Rattle.model_store.specs.Settings.{Setting, users_in}
use Rattle.model_values.specs.Delta.{delta_of, moves_defined, value_of}
use Rattle.model_values.specs.Wholes.{IsOf}
use Rattle.model_values.specs.declared.asked.AskStop.{AskStop}
use Rattle.model_values.specs.declared.asked.AskStop.TheVariants.{Run, Fault}
use Rattle.model_values.specs.declared.deltas.Move.{Move}
use Rattle.model_values.specs.declared.deltas.Move.TheVariants.{Assign, Swap}
use Rattle.model_values.specs.declared.failure.Failure.{Failure}
use Rattle.model_values.specs.declared.wholes.Whole.{Whole}
use Rattle.store_turns.specs.Meaning.{Graph}
use Rattle.term_model.specs.declared.model.Model.{Model}
use Rattle.trial.specs.declared.fault.DifferenceFault.{DifferenceFault}
use Rattle.trial.specs.declared.fault.DifferenceFault.TheVariants.{Node, Difference, NoMemory}
use Rattle.graph_values.specs.Members.{cells_of, variables_of}
use Rattle.graph_values.specs.Totals.{IsAt, IsRepeat}

-- the total of a system or an objective, or a node that repeats it
abbrev pub IsTarget : Graph → (Whole → ℕ) → Whole → ℕ → Type 0
IsTarget g id_of_total whole target = (target ≡ id_of_total whole) ⊎ IsRepeat g target (id_of_total whole)

-- only cells are free
abbrev pub HasFreeCells : Model → Graph → Type 0
HasFreeCells M g = (id : ℕ) → id < g.size → g.is_free id ≡ true → id < cells_of M

-- the system or objective comes to a failure with this fault, at this id's place
pub record IsFailureAt (users : ℕ → NumberRule) (M : Model) (a : List ℤ) (id_of_total : Whole → ℕ) (whole : Whole) (id : ℕ) (found : RunFault) : Type 0 where
  pub failure : Failure
  pub value : value_of users M a whole ≡ Err failure
  pub fault : failure.fault ≡ found
  pub place : IsAt M id_of_total id failure.place

-- the moves of free cells that a move is; of a swap, of two variables
abbrev pub IsMoveOf : List ℤ → Move → List (VarId × ℤ) → Type 0
IsMoveOf a (Assign var value) ms = (v : VarId) × (v.index ≡ var) × (ms ≡ (v, value) ∷ [])
IsMoveOf a (Swap left right) ms =
    (v : VarId) × (w : VarId) × (v.index ≡ right) × (w.index ≡ left) × (ms ≡ (v, slice_index_or a left (pos 0)) ∷ (w, slice_index_or a right (pos 0)) ∷ [])

-- an answer is the one of which a trial tells: the same number; or a fault in the model, at the place of the node; or
-- one of the difference
abbrev pub IsTold : Model → (Whole → ℕ) → Result ℤ AskStop → Result ℤ DifferenceFault → Type 0
IsTold M id_of_total answer (Ok d) = answer ≡ Ok d
IsTold M id_of_total answer (Err (Node node fault)) = (cells_of M ≤ node.0) × (place : Place) × IsAt M id_of_total node.0 place × (answer ≡ Err (Fault place fault))
IsTold M id_of_total answer (Err (Difference fault)) = answer ≡ Err (Run fault)
IsTold M id_of_total answer (Err NoMemory) = Unit {0}

-- a move of the model's own variables, of two of them where it is a swap
abbrev pub IsProper : Model → Move → Type 0
IsProper M (Assign var value) = var < variables_of M
IsProper M (Swap left right) = (left < variables_of M) × (right < variables_of M) × (left ≢ right)

-- what is asked of a store of a model: the delta of a move for a system or an objective
pub record Question : Type 0 where
  pub setting : Setting
  pub whole : Whole
  pub change : Move

-- the move is of free variables of the model, of two of them where it is a swap, and these are the moves of cells
pub record IsAsked (q : Question) (ms : List (VarId × ℤ)) : Type 0 where
  pub whole : IsOf q.setting.model q.whole
  pub change : IsMoveOf q.setting.assignment q.change ms
  pub proper : IsProper q.setting.model q.change
  pub undefined : moves_defined q.setting.model q.change ≡ false

-- the model's answer
abbrev pub delta_asked : Question → Result ℤ AskStop
delta_asked q = delta_of (users_in q.setting) q.setting.model q.setting.assignment q.whole q.change
