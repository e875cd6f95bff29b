-- What the ids of a model's graph come to where the model is evaluated afresh: the value of the id's variable, weight or
-- subterm; or its own fault, where its arguments all have values and its own operation fails; or nothing, where
-- an argument has no value. A rule of this project.
use Rattle.std.specs.Prelude.{◌≡◌, ℕ, ℤ, ◌<◌, cond, nat_lt, List, length, Option, Some, None}
use Rattle.cbl_base.specs.NumberRule.{NumberRule}
use Rattle.cbl_base.specs.declared.input.Input.{Input}
use Rattle.model_values.specs.Failures.{failure_of}
use Rattle.model_values.specs.Outcomes.{outcome_of}
use Rattle.model_values.specs.VarOutcomes.{outcome_of_var}
use Rattle.model_values.specs.declared.failure.Failure.{Failure}
use Rattle.store_build.specs.Aims.{start_of}
use Rattle.store_turns.specs.Meaning.{AreLayers, Graph, IsMeaning}
use Rattle.store_turns.specs.declared.outcome.Outcome.{Outcome}
use Rattle.store_turns.specs.declared.outcome.Outcome.TheVariants.{Value, Fails, Missing}
use Rattle.term_model.specs.Definitions.{IsAcyclic}
use Rattle.term_model.specs.Wellformed.{IsWellFormed}
use Rattle.term_model.specs.declared.model.Model.{Model}
use Rattle.term_model.specs.declared.term.Term.{Term}
use Rattle.graph_values.specs.Graphs.{count_of, model_graph, term_at}
use Rattle.graph_values.specs.Members.{cells_of, numbers_of, variables_of}

-- a model that may be evaluated, with a number for each of its variables
pub record IsGiven (M : Model) (a : List ℤ) : Type 0 where
  pub formed : IsWellFormed M
  pub acyclic : IsAcyclic M
  pub long : length a ≡ length M.vars.items

-- a value, or the fault of a failure, or neither
abbrev pub came_to : Option Input → Option Failure → Outcome
came_to (Some x) failure = Value x
came_to None (Some failure) = Fails failure.fault
came_to None None = Missing

-- what a variable and a subterm come to; a variable has no operation of its own
abbrev pub fresh_var : (ℕ → Option Input) → ℕ → Outcome
fresh_var env i = came_to (env i) None

abbrev pub fresh_term : (ℕ → NumberRule) → (ℕ → Option Input) → Option Term → Outcome
fresh_term users env (Some t) = came_to (outcome_of users env t) (failure_of users env t)
fresh_term users env None = Missing

-- what a cell comes to under an assignment: a variable's value, or a weight
abbrev pub fresh_cell : (ℕ → NumberRule) → Model → List ℤ → ℕ → Outcome
fresh_cell users M a id = cond (nat_lt id (variables_of M)) (fresh_var (outcome_of_var users M a) id) (Value (start_of (numbers_of M a) id))

-- what an id comes to under an assignment
abbrev pub fresh_at : (ℕ → NumberRule) → Model → List ℤ → ℕ → Outcome
fresh_at users M a id = cond (nat_lt id (cells_of M)) (fresh_cell users M a id) (fresh_term users (outcome_of_var users M a) (term_at M id))

-- whatever the ids of a graph come to over an assignment, those of the model's graph come to the fresh values
abbrev pub MeansFresh : (ℕ → NumberRule) → Model → List ℤ → Graph → Type 0
MeansFresh users M a g = (o : ℕ → Outcome) → IsMeaning g (start_of (numbers_of M a)) o → (id : ℕ) → id < count_of M → o id ≡ fresh_at users M a id

-- the ids of the model's graph can be laid in layers
abbrev pub HasLayers : (ℕ → NumberRule) → Model → Type 0
HasLayers users M = (layer : ℕ → ℕ) × AreLayers (model_graph users M) layer
