-- What an acyclic model comes to hangs on the numbers of its free variables alone.
use Rattle.std.proofs.Common.{◌≡◌, ℕ, ℤ, zero, suc, ◌<◌, ◌≤◌, List, Option, Some, None, length, refl, sym, ap, ◌∙◌, arith}
use Rattle.std.proofs.Math.Path.{fun_ext}
use Rattle.std.specs.Option.{option_map}
use Rattle.cbl_base.specs.NumberRule.{NumberRule}
use Rattle.cbl_base.specs.declared.input.Input.TheVariants.{Int}
use Rattle.model_values.specs.Closed.{AgreeOnFree}
use Rattle.model_values.specs.Delta.{value_of}
use Rattle.model_values.specs.Outcomes.{Outcome}
use Rattle.model_values.specs.VarOutcomes.{outcome_by, outcome_of_var}
use Rattle.model_values.specs.Wholes.{outcome_of_whole, place_of}
use Rattle.model_values.specs.declared.wholes.Whole.{Whole}
use Rattle.term_model.specs.Definitions.{definition_of, IsAcyclic}
use Rattle.term_model.specs.Wellformed.{IsWellFormed}
use Rattle.term_model.specs.declared.model.Model.{Model}
use Rattle.term_model.proofs.Rounds.{names_within}
use Rattle.model_values.proofs.Settled.{lt_dec, none_through}
use Rattle.model_values.proofs.VarLaws.{equals_definition, same_by}

module _ (users : ℕ → NumberRule) (M : Model) (formed : IsWellFormed M) (acyclic : IsAcyclic M) (a b : List ℤ) (agree : AgreeOnFree M a b) where
  -- with the same of the others a variable comes to the same
  same_entry : (env : ℕ → Outcome) (i : ℕ) (entry : Option ℕ) → i < length M.vars.items → definition_of M i ≡ entry → outcome_by users M a env i entry ≡ outcome_by users M b env i entry
  same_entry env i None lt e = ap (option_map (λ z. Int z)) (agree i lt e)
  same_entry env i (Some d) lt e = refl

  same_below : (k i : ℕ) → i < length M.vars.items → acyclic.rank i < k → outcome_of_var users M a i ≡ outcome_of_var users M b i
  same_below zero i lt ranks = absurd (omega arith)
  same_below (suc k) i lt ranks =
      equals_definition users M a acyclic i lt
      ∙ same_by users M a acyclic (outcome_of_var users M a) (outcome_of_var users M b) i (definition_of M i)
      (λ d in'. let falls = acyclic.falls i d in' in same_below k d (names_within M formed i d lt in') (omega arith))
      ∙ same_entry (outcome_of_var users M b) i (definition_of M i) lt refl
      ∙ sym (equals_definition users M b acyclic i lt)

  pub same_vars : (i : ℕ) → i < length M.vars.items → outcome_of_var users M a i ≡ outcome_of_var users M b i
  same_vars i lt = same_below (length M.vars.items) i lt (acyclic.within i lt)

  same_at : length a ≡ length M.vars.items → length b ≡ length M.vars.items → (i : ℕ) → Dec (i < length M.vars.items) → outcome_of_var users M a i ≡ outcome_of_var users M b i
  same_at long long' i (yes lt) = same_vars i lt
  same_at long long' i (no ge) =
      let le : length M.vars.items ≤ i = omega (arith, ge) in
      none_through users M a formed long (length M.vars.items) i le ∙ sym (none_through users M b formed long' (length M.vars.items) i le)

pub same_values : (users : ℕ → NumberRule) (M : Model) (a b : List ℤ) → IsWellFormed M → IsAcyclic M → length a ≡ length M.vars.items → length b ≡ length M.vars.items → AgreeOnFree M a b → (whole : Whole) → value_of users M a whole ≡ value_of users M b whole
same_values users M a b formed acyclic long long' agree whole =
    ap (λ env. outcome_of_whole users M env whole (place_of M whole)) (fun_ext (λ i. same_at users M formed acyclic a b agree long long' i (lt_dec i (length M.vars.items))))
