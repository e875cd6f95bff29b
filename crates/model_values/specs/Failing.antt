-- Subterms that were found to fail, with their failures. A rule of this project.
use Rattle.std.specs.Prelude.{◌≡◌, ℕ, List, map, Some, slice_get}
use Rattle.cbl_base.specs.NumberRule.{NumberRule}
use Rattle.model_values.specs.Failures.{failure_of}
use Rattle.model_values.specs.Outcomes.{Outcome}
use Rattle.model_values.specs.declared.evaluation.Failing.{Failing}
use Rattle.term_model.specs.declared.term.Term.{Term}

-- they are these terms, and each fails so
pub record AreFailing (users : ℕ → NumberRule) (env : ℕ → Outcome) (found : List Failing) (terms : List Term) : Type 0 where
  pub named : map (λ f. f.term.now) found ≡ terms
  pub failures : (k : ℕ) (f : Failing) → slice_get found k ≡ Some f → failure_of users env f.term.now ≡ Some f.failure
