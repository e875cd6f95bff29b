-- The least failing id of a model's graph, and the failure of the least numbered subterm that fails. A rule of
-- this project.
use Rattle.std.specs.Prelude.{◌≡◌, ℕ, ℤ, ◌<◌, List, Option, Some}
use Rattle.std.specs.Option.{option_and_then}
use Rattle.cbl_base.specs.NumberRule.{NumberRule}
use Rattle.cbl_base.specs.declared.faults.RunFault.{RunFault}
use Rattle.cbl_base.specs.declared.place.Place.{Place}
use Rattle.model_values.specs.Failures.{first_failure}
use Rattle.model_values.specs.VarOutcomes.{outcome_of_var}
use Rattle.model_values.specs.declared.failure.Failure.{Failure}
use Rattle.store_build.specs.Aims.{start_of}
use Rattle.store_build.specs.Stops.{FailsFirst}
use Rattle.store_turns.specs.Meaning.{Graph}
use Rattle.term_model.specs.Subterms.{distinct_subterms}
use Rattle.term_model.specs.declared.model.Model.{Model}
use Rattle.graph_values.specs.Graphs.{count_of, term_at}
use Rattle.graph_values.specs.Members.{numbers_of}
use Rattle.term_graph.specs.Heads.{place_of}

-- the failure of the least numbered subterm that fails
abbrev pub least_failure : (ℕ → NumberRule) → Model → List ℤ → Option Failure
least_failure users M a = first_failure users (outcome_of_var users M a) (distinct_subterms M)

-- where an id's subterm stands in the text
abbrev pub place_at : Model → ℕ → Option Place
place_at M id = option_and_then place_of (term_at M id)

-- over an assignment this id of a graph is the least whose own operation fails though all its inputs have values,
-- with the fault of this failure, and its subterm stands at the failure's place
pub record IsLeast (M : Model) (a : List ℤ) (g : Graph) (id : ℕ) (failure : Failure) : Type 0 where
  pub there : id < count_of M
  pub first : FailsFirst g (start_of (numbers_of M a)) id failure.fault
  pub place : place_at M id ≡ Some failure.place

-- a subterm fails, and the least numbered one that does has this fault, at this id's place
pub record IsLeastFailure (users : ℕ → NumberRule) (M : Model) (a : List ℤ) (id : ℕ) (found : RunFault) : Type 0 where
  pub failure : Failure
  pub least : least_failure users M a ≡ Some failure
  pub fault : failure.fault ≡ found
  pub place : place_at M id ≡ Some failure.place
