-- What a model comes to, from what its variables and all systems and objectives do.
use Rattle.std.proofs.Common.{◌≡◌, ℕ, List, Option, Some, None, Result, Err, sym, ap, ◌∙◌, subst}
use Rattle.std.specs.Prelude.{unwrap_or}
use Rattle.cbl_base.specs.NumberRule.{NumberRule}
use Rattle.cbl_base.specs.declared.input.Input.{Input}
use Rattle.model_values.specs.Failures.{first_failure, no_failure}
use Rattle.model_values.specs.Fresh.{Fresh, IsFresh, Sums, all_joined, fresh_in, fresh_sums, fresh_vars, joined_or}
use Rattle.model_values.specs.Outcomes.{Outcome}
use Rattle.model_values.specs.declared.failure.Failure.{Failure}
use Rattle.model_values.specs.declared.values.ModelStop.{ModelStop}
use Rattle.model_values.specs.declared.values.Values.{Values}
use Rattle.term_model.specs.Subterms.{distinct_subterms}
use Rattle.term_model.specs.declared.model.Model.{Model}
use Rattle.term_model.specs.declared.posting.Side.TheVariants.{Systems, Objectives}

module _ (users : ℕ → NumberRule) (M : Model) (env : ℕ → Outcome) (vars : Option (List Input)) (systems objectives : Sums) (found : Option (Result Fresh Failure)) (result : Result Values ModelStop)
    (is_vars : vars ≡ fresh_vars users M env) (is_systems : systems ≡ fresh_sums users M env Systems) (is_objectives : objectives ≡ fresh_sums users M env Objectives) (is : found ≡ all_joined vars systems objectives) where
  whole : found ≡ all_joined (fresh_vars users M env) (fresh_sums users M env Systems) (fresh_sums users M env Objectives)
  whole =
      is ∙ ap (λ v. all_joined v systems objectives) is_vars ∙ ap (λ s. all_joined (fresh_vars users M env) s objectives) is_systems
      ∙ ap (all_joined (fresh_vars users M env) (fresh_sums users M env Systems)) is_objectives

  pub fresh_from : (all : Result Fresh Failure) → found ≡ Some all → IsFresh all result → IsFresh (fresh_in users M env) result
  fresh_from all there fresh = subst (λ f. IsFresh f result) (ap (λ o. joined_or o (first_failure users env (distinct_subterms M))) (sym there ∙ whole)) fresh

  pub fresh_failing : (failure : Failure) → found ≡ None → failure ≡ unwrap_or (first_failure users env (distinct_subterms M)) no_failure → IsFresh (Err failure) result → IsFresh (fresh_in users M env) result
  fresh_failing failure there least fresh =
      subst (λ f. IsFresh f result) (ap Err least ∙ ap (λ o. joined_or o (first_failure users env (distinct_subterms M))) (sym there ∙ whole)) fresh
