-- What a delta is asked of, and the place of its fault.
use Rattle.std.proofs.Common.{◌≡◌, ℕ, ℤ, ◌+◌, ◌<◌, inl, inr, List, length, Some, Result, Err, refl, sym, ap, ◌∙◌, slice_get, arith}
use Rattle.std.specs.Prelude.{unwrap_or}
use Rattle.cbl_base.specs.NumberRule.{NumberRule}
use Rattle.cbl_base.specs.declared.faults.RunFault.{RunFault}
use Rattle.cbl_base.specs.declared.place.Place.{Place}
use Rattle.graph_values.specs.Totals.{IsRepeat}
use Rattle.graph_values.specs.WholeGraphs.{first_repeat, total_id}
use Rattle.graph_values.proofs.Wholes.{objective_repeats}
use Rattle.model_nodes.specs.Making.{ArePlaces}
use Rattle.model_values.specs.Fresh.{whole_by}
use Rattle.model_values.specs.Wholes.{IsOf}
use Rattle.model_values.specs.declared.asked.AskStop.{AskStop}
use Rattle.model_values.specs.declared.asked.AskStop.TheVariants.{Fault}
use Rattle.model_values.specs.declared.deltas.Move.{Move}
use Rattle.model_values.specs.declared.deltas.Move.TheVariants.{Assign, Swap}
use Rattle.model_values.specs.declared.wholes.Whole.TheVariants.{Objective}
use Rattle.store_laws.specs.Deltas.{IsMoveOf, IsTarget}
use Rattle.store_laws.specs.ModelTouch.{IsWhole}
use Rattle.store_turns.specs.Meaning.{Graph}
use Rattle.term_model.specs.Posting.{totals_by}
use Rattle.term_model.specs.declared.model.Model.{Model}
use Rattle.term_model.specs.declared.posting.Side.{Side}
use Rattle.term_model.specs.declared.posting.Side.TheVariants.{Systems, Objectives}
use Rattle.solver_store.specs.Asking.{cell, moves_by, target_of}

-- ---- the target
pub is_of : (M : Model) (side : Side) (index : ℕ) → index < length (totals_by M side) → IsOf M (whole_by side index)
is_of M Systems index lt = lt
is_of M Objectives index lt = lt

-- in a graph that is the model's with its totals there is a repeat of each objective's total
pub repeats : (users : ℕ → NumberRule) (M : Model) (g : Graph) → IsWhole users M g → (k : ℕ) → k < length M.objectives.items → IsRepeat g (first_repeat M + k) (total_id M (Objective k))
repeats users M g is k lt =
    let r = objective_repeats users M k lt in
    let size = is.size in
    let low : first_repeat M + k < g.size = omega (arith, size, lt) in
    (low, is.free (first_repeat M + k) low ∙ r.1, is.inputs (first_repeat M + k) low ∙ r.2, λ xs. is.ops (first_repeat M + k) xs low ∙ r.3 xs)

pub is_target : (users : ℕ → NumberRule) (M : Model) (g : Graph) → IsWhole users M g → (side : Side) (index : ℕ) → index < length (totals_by M side) → IsTarget g (total_id M) (whole_by side index) (target_of M side index)
is_target users M g is Systems index lt = inl refl
is_target users M g is Objectives index lt = inr (repeats users M g is index lt)

-- ---- the moves
pub is_move : (a : List ℤ) (change : Move) → IsMoveOf a change (moves_by a change)
is_move a (Assign var value) = (cell var, refl, refl)
is_move a (Swap left right) = (cell right, cell left, refl, refl, refl)

-- ---- the place of a fault
pub placed : (M : Model) (places : List Place) → ArePlaces M places → (answer : Result ℤ AskStop) (id : ℕ) (fault : RunFault) (place found : Place) → slice_get places id ≡ Some found → id < length places → slice_get places id ≡ Some place →
    answer ≡ Err (Fault place fault) → answer ≡ Err (Fault found fault)
placed M places are answer id fault place found at lt there e = e ∙ ap (λ p. Err (Fault p fault)) (ap (λ o. unwrap_or o place) (sym there ∙ at))
