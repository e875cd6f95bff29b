-- What a variable comes to: a free one to its number in the assignment, and a defined one to what its
-- definition's term comes to. Comet's rule that a defined variable always equals its expression.
use Rattle.std.specs.Prelude.{ℕ, ℤ, zero, suc, List, length, Option, Some, None, slice_get}
use Rattle.std.specs.Option.{option_map}
use Rattle.cbl_base.specs.NumberRule.{NumberRule}
use Rattle.cbl_base.specs.declared.input.Input.TheVariants.{Int}
use Rattle.model_values.specs.Outcomes.{Outcome, outcome_of}
use Rattle.term_model.specs.Definitions.{definition_of, term_of}
use Rattle.term_model.specs.declared.model.Model.{Model}
use Rattle.term_model.specs.declared.term.Term.{Term}

-- what a definition's term comes to
abbrev pub outcome_of_term : (ℕ → NumberRule) → (ℕ → Outcome) → Option Term → Outcome
outcome_of_term users env (Some term) = outcome_of users env term
outcome_of_term users env None = None

-- what a variable with this definition comes to, where the others come to these
abbrev pub outcome_by : (ℕ → NumberRule) → Model → List ℤ → (ℕ → Outcome) → ℕ → Option ℕ → Outcome
outcome_by users M a env i None = option_map (λ z. Int z) (slice_get a i)
outcome_by users M a env i (Some d) = outcome_of_term users env (term_of M.defs.items d)

-- the same through so many definitions
unfoldable pub outcomes_through : (ℕ → NumberRule) → Model → List ℤ → ℕ → ℕ → Outcome
outcomes_through users M a zero i = None
outcomes_through users M a (suc n) i = outcome_by users M a (outcomes_through users M a n) i (definition_of M i)

-- what a variable comes to: no definition goes through more variables than there are
abbrev pub outcome_of_var : (ℕ → NumberRule) → Model → List ℤ → ℕ → Outcome
outcome_of_var users M a = outcomes_through users M a (length M.vars.items)
