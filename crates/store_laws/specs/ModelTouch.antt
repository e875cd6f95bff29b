-- How much a change touches of a model: its nodes are the variables, the weights of its systems' members, the distinct
-- subterms, the weights of its objectives' terms, the totals and for each objective one that repeats its total, numbered
-- in that order; an edge goes from each input to its node, one for each place. The change is from a model with numbers of
-- its variables to another with the same nodes and edges: by a move the numbers are others, by a weight that is set the
-- model. A node differs where its value after the change isn't its value now; a fault, or no value, counts as a value of
-- its own. Touched are what is moved and each node with an input that differs. It speaks of no store. A rule of this
-- project.
use Rattle.std.specs.Prelude.{◌≡◌, ℕ, ℤ, ◌+◌, ◌-◌, ◌*◌, ◌<◌, Bool, true, cond, List, length}
use Rattle.cbl_base.specs.NumberRule.{NumberRule}
use Rattle.cbl_base.specs.declared.ids.NodeId.{NodeId}
use Rattle.cbl_base.specs.declared.input.Input.{Input}
use Rattle.cbl_base.specs.declared.input.Input.TheVariants.{Int}
use Rattle.model_values.specs.VarOutcomes.{outcome_of_var}
use Rattle.model_values.specs.Wholes.{place_of, sum_in}
use Rattle.model_values.specs.declared.wholes.Whole.{Whole}
use Rattle.model_values.specs.declared.wholes.Whole.TheVariants.{System, Objective}
use Rattle.store_turns.specs.Meaning.{Graph}
use Rattle.store_turns.specs.Telling.{places_in, positions}
use Rattle.store_turns.specs.Touch.{bit, differs, sum_below, touched}
use Rattle.store_turns.specs.declared.outcome.Outcome.{Outcome}
use Rattle.store_turns.specs.declared.outcome.Outcome.TheVariants.{Value, Fails, Missing}
use Rattle.std.specs.List.{All}
use Rattle.term_model.specs.declared.model.Model.{Model}
use Rattle.graph_values.specs.Graphs.{count_of}
use Rattle.graph_values.specs.Outcomes.{fresh_at}
use Rattle.graph_values.specs.Totals.{came_repeat, came_total}
use Rattle.graph_values.specs.WholeGraphs.{by_range, first_objective, first_repeat, first_system, inputs_in_whole, weight_at, whole_graph}

-- what each node comes to under an assignment
abbrev pub total_came : (ℕ → NumberRule) → Model → List ℤ → Whole → Outcome
total_came users M a whole = came_total (sum_in users M (outcome_of_var users M a) whole (place_of M whole))

abbrev pub repeat_came : (ℕ → NumberRule) → Model → List ℤ → Whole → Outcome
repeat_came users M a whole = came_repeat (sum_in users M (outcome_of_var users M a) whole (place_of M whole))

abbrev pub whole_at : (ℕ → NumberRule) → Model → List ℤ → ℕ → Outcome
whole_at users M a id =
    by_range M id (fresh_at users M a id) (Value (Int (weight_at M (id - count_of M)))) (total_came users M a (System (id - first_system M))) (total_came users M a (Objective (id - first_objective M)))
    (repeat_came users M a (Objective (id - first_repeat M)))

-- whether an outcome is another than this one now
abbrev pub is_other : Outcome → Outcome → Bool
is_other after (Value x) = differs after x
is_other after (Fails f) = true
is_other after Missing = true

-- whether a node differs, from one model and assignment to another
abbrev pub differs_in : (ℕ → NumberRule) → Model → List ℤ → Model → List ℤ → ℕ → Bool
differs_in users M a N b id = is_other (whole_at users N b id) (whole_at users M a id)

abbrev pub many_nodes : Model → ℕ
many_nodes M = first_repeat M + length M.objectives.items

-- the edges from a node
abbrev pub edges_from : Model → ℕ → ℕ
edges_from M id = sum_below (λ j. length (positions id (inputs_in_whole M j))) (many_nodes M)

-- the edges from the nodes that differ, and twice what is touched
abbrev pub model_touch : (ℕ → NumberRule) → Model → List ℤ → Model → List ℤ → (ℕ → Bool) → ℕ
model_touch users M a N b moved =
    sum_below (λ id. cond (differs_in users M a N b id) (edges_from M id) 0) (many_nodes M)
    + 2 * sum_below (λ j. bit (touched moved (differs_in users M a N b) (inputs_in_whole M) j)) (many_nodes M)

-- a graph is that of the model with its totals
pub record IsWhole (users : ℕ → NumberRule) (M : Model) (g : Graph) : Type 0 where
  pub size : g.size ≡ many_nodes M
  pub inputs : (id : ℕ) → id < g.size → g.inputs id ≡ inputs_in_whole M id
  pub free : (id : ℕ) → id < g.size → g.is_free id ≡ (whole_graph users M).is_free id
  pub ops : (id : ℕ) (xs : List Input) → id < g.size → g.op id xs ≡ (whole_graph users M).op id xs

-- each use of an id is a place at which it is an input
pub record AreUses (g : Graph) (uses : ℕ → List (NodeId × ℕ)) : Type 0 where
  pub are : (id j : ℕ) → id < g.size → places_in j (uses id) ≡ positions id (g.inputs j)
  pub within : (id : ℕ) → All (λ u. u.0.0 < g.size) (uses id)
