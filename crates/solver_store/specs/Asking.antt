-- What is asked of a store for a delta: at which id, and by which moves of cells. A rule of this project.
use Rattle.std.specs.Prelude.{ℕ, ℤ, pos, ◌+◌, List, [], ◌∷◌, slice_index_or}
use Rattle.cbl_base.specs.declared.ids.VarId.{VarId}
use Rattle.graph_values.specs.WholeGraphs.{first_repeat, total_id}
use Rattle.model_values.specs.declared.deltas.Move.{Move}
use Rattle.model_values.specs.declared.deltas.Move.TheVariants.{Assign, Swap}
use Rattle.model_values.specs.declared.wholes.Whole.TheVariants.{System}
use Rattle.term_model.specs.declared.model.Model.{Model}
use Rattle.term_model.specs.declared.posting.Side.{Side}
use Rattle.term_model.specs.declared.posting.Side.TheVariants.{Systems, Objectives}

-- a system's total, and the node that repeats an objective's
abbrev pub target_of : Model → Side → ℕ → ℕ
target_of M Systems index = total_id M (System index)
target_of M Objectives index = first_repeat M + index

-- a cell by its number
abbrev pub cell : ℕ → VarId
cell i = record { solver = 0; index = i }

-- of a swap the move that is written last stands first
abbrev pub moves_by : List ℤ → Move → List (VarId × ℤ)
moves_by a (Assign var value) = (cell var, value) ∷ []
moves_by a (Swap left right) = (cell right, slice_index_or a left (pos 0)) ∷ (cell left, slice_index_or a right (pos 0)) ∷ []
