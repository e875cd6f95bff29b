-- What a store keeps.
use Rattle.std.specs.Prelude.{◌≡◌, ℕ, ◌<◌, false, List, length, map, Some}
use Rattle.cbl_base.specs.Inputs.{kind_of}
use Rattle.cbl_base.specs.NodeLaw.{Rule}
use Rattle.cbl_base.specs.declared.input.Input.{Input}
use Rattle.store_turns.specs.declared.frame.Frame.{Frame}
use Rattle.store_turns.specs.declared.outcome.Outcome.TheVariants.{Value}
use Rattle.store_turns.specs.Meaning.{IsMeaning, graph_of, inputs_in, values_of}
use Rattle.store_build.specs.Frames.{cell_of, held_of, IsFrame}

-- a store that can be used: each id has the value that its operation gives of its inputs' values, and
-- each node holds these
pub record IsKept (rules : List Rule) (helds : List (List Input)) (frame : Frame) (cells : List Input) : Type 0 where
  pub framed : IsFrame rules frame (λ j. kind_of (cell_of cells j))
  pub many_cells : length cells ≡ length frame.inputs.items
  pub many_helds : length helds ≡ length rules
  pub fresh : IsMeaning (graph_of rules frame) (cell_of cells) (λ j. Value (cell_of cells j))
  pub holds : (j : ℕ) → j < length frame.inputs.items → (graph_of rules frame).is_free j ≡ false → values_of (map (λ i. Value (cell_of cells i)) (inputs_in frame j)) ≡ Some (held_of helds cells frame j)
