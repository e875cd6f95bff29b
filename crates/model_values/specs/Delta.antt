-- The delta of a system or an objective for one assignment, or one swap: its value after the move less its
-- value now. A moved variable that has a definition is a fault, and comes first; then the fault of the system
-- or objective after the move, then that of it now, then that of a difference that doesn't fit. A rule of
-- this project.
use Rattle.std.specs.Prelude.{ℕ, ℤ, pos, ◌-ℤ◌, ◌<◌, ◌||◌, Bool, List, length, Result, Ok, Err, is_some, slice_index_or, slice_set, if◌then◌else◌}
use Rattle.cbl_base.specs.Arithmetic.{exact}
use Rattle.cbl_base.specs.NumberRule.{NumberRule}
use Rattle.cbl_base.specs.declared.faults.RunFault.TheVariants.{DefinedVariable}
use Rattle.model_values.specs.Asked.{answer_of, stop_at}
use Rattle.term_model.specs.Definitions.{definition_of}
use Rattle.model_values.specs.VarOutcomes.{outcome_of_var}
use Rattle.model_values.specs.Wholes.{outcome_of_whole, place_of}
use Rattle.model_values.specs.declared.asked.AskStop.{AskStop}
use Rattle.model_values.specs.declared.asked.AskStop.TheVariants.{Run}
use Rattle.model_values.specs.declared.deltas.Move.{Move}
use Rattle.model_values.specs.declared.deltas.Move.TheVariants.{Assign, Swap}
use Rattle.term_model.specs.declared.model.Model.{Model}
use Rattle.model_values.specs.declared.failure.Failure.{Failure}
use Rattle.model_values.specs.declared.wholes.Whole.{Whole}

-- the moved variables are the model's own
abbrev pub AreOwn : Model → Move → Type 0
AreOwn M (Assign var value) = var < length M.vars.items
AreOwn M (Swap left right) = (left < length M.vars.items) × (right < length M.vars.items)

-- whether a moved variable has a definition
abbrev pub moves_defined : Model → Move → Bool
moves_defined M (Assign var value) = is_some (definition_of M var)
moves_defined M (Swap left right) = is_some (definition_of M left) || is_some (definition_of M right)

-- the assignment after a move
abbrev pub moved : List ℤ → Move → List ℤ
moved a (Assign var value) = slice_set a var value
moved a (Swap left right) = slice_set (slice_set a left (slice_index_or a right (pos 0))) right (slice_index_or a left (pos 0))

abbrev pub difference : Result ℤ Failure → Result ℤ Failure → Result ℤ AskStop
difference (Ok after) (Ok now) = answer_of (exact (after -ℤ now))
difference (Ok after) (Err f) = Err (stop_at f)
difference (Err f) now = Err (stop_at f)

-- the value of a system or objective
abbrev pub value_of : (ℕ → NumberRule) → Model → List ℤ → Whole → Result ℤ Failure
value_of users M a whole = outcome_of_whole users M (outcome_of_var users M a) whole (place_of M whole)

-- the delta of a move
abbrev pub delta_of : (ℕ → NumberRule) → Model → List ℤ → Whole → Move → Result ℤ AskStop
delta_of users M a whole move =
    if moves_defined M move then Err (Run DefinedVariable) else difference (value_of users M (moved a move) whole) (value_of users M a whole)
