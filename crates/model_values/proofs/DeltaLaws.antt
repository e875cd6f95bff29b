-- A delta from the values after the move and now.
use Rattle.std.proofs.Common.{◌≡◌, ℕ, ℤ, false, List, Result, sym, ap, ◌∙◌, subst}
use Rattle.std.specs.Prelude.{if◌then◌else◌, Err}
use Rattle.cbl_base.specs.NumberRule.{NumberRule}
use Rattle.cbl_base.specs.declared.place.Place.{Place}
use Rattle.cbl_base.specs.declared.faults.RunFault.TheVariants.{DefinedVariable}
use Rattle.model_values.specs.Asked.{IsAnswer}
use Rattle.model_values.specs.Delta.{moves_defined, moved, difference, value_of, delta_of}
use Rattle.model_values.specs.VarOutcomes.{outcome_of_var}
use Rattle.model_values.specs.Wholes.{outcome_of_whole, place_of}
use Rattle.model_values.specs.declared.asked.AskStop.{AskStop}
use Rattle.model_values.specs.declared.asked.AskStop.TheVariants.{Run}
use Rattle.model_values.specs.declared.deltas.Move.{Move}
use Rattle.term_model.specs.declared.model.Model.{Model}
use Rattle.model_values.specs.declared.failure.Failure.{Failure}
use Rattle.model_values.specs.declared.wholes.Whole.{Whole}

pub delta_from : (users : ℕ → NumberRule) (M : Model) (a : List ℤ) (whole : Whole) (place : Place) (move : Move) (numbers : List ℤ) (after now : Result ℤ Failure) (result : Result ℤ AskStop) →
    moves_defined M move ≡ false → place ≡ place_of M whole → numbers ≡ moved a move →
    after ≡ outcome_of_whole users M (outcome_of_var users M numbers) whole place → now ≡ outcome_of_whole users M (outcome_of_var users M a) whole place →
    IsAnswer (difference after now) result → IsAnswer (delta_of users M a whole move) result
delta_from users M a whole place move numbers after now result free at is h i d =
    let after' : after ≡ value_of users M (moved a move) whole = h ∙ ap (outcome_of_whole users M (outcome_of_var users M numbers) whole) at ∙ ap (λ b. value_of users M b whole) is in
    let now' : now ≡ value_of users M a whole = i ∙ ap (outcome_of_whole users M (outcome_of_var users M a) whole) at in
    let whole' : difference after now ≡ difference (value_of users M (moved a move) whole) (value_of users M a whole) =
    ap (λ r. difference r now) after' ∙ ap (difference (value_of users M (moved a move) whole)) now' in
    subst (λ e. IsAnswer e result) (whole' ∙ sym (ap (λ b. if b then Err (Run DefinedVariable) else difference (value_of users M (moved a move) whole) (value_of users M a whole)) free)) d
