-- A graph that holds all of a model: behind the nodes of the subterms a constant for the weight of each term of an
-- objective, by objective and in order of posting, then the totals of the systems and those of the objectives, in order
-- of declaration, and at the end for each objective a node that repeats its total. A total takes its members, and behind
-- them their weights, a system's from the cells behind those of the variables. A rule of this project.
use Rattle.std.specs.Prelude.{ℕ, ℤ, pos, ◌+◌, ◌-◌, ◌&&◌, cond, nat_lt, List, [], ◌∷◌, ◌++◌, length, map, Result, Ok, slice_get, unwrap_or}
use Rattle.std.specs.Option.{option_map}
use Rattle.cbl_base.specs.NumberRule.{NumberRule}
use Rattle.cbl_base.specs.declared.faults.RunFault.{RunFault}
use Rattle.cbl_base.specs.declared.input.Input.{Input}
use Rattle.cbl_base.specs.declared.input.Input.TheVariants.{Int}
use Rattle.cbl_violations.specs.Violations.Repeat.{repeat}
use Rattle.cbl_violations.specs.Violations.WeightedTotal.{weighted_total}
use Rattle.model_values.specs.declared.wholes.Whole.{Whole}
use Rattle.model_values.specs.declared.wholes.Whole.TheVariants.{System, Objective}
use Rattle.store_turns.specs.Meaning.{Graph, is_empty}
use Rattle.term_model.specs.declared.model.Model.{Model}
use Rattle.term_model.specs.declared.posting.Side.TheVariants.{Objectives}
use Rattle.graph_values.specs.Graphs.{count_of, id_of, inputs_of, model_graph}
use Rattle.graph_values.specs.Members.{cells_of, members_by, members_of}
use Rattle.graph_values.specs.Totals.{weight_ids}

-- the weight of a term of an objective
abbrev pub weight_at : Model → ℕ → ℤ
weight_at M i = unwrap_or (option_map (λ m. m.weight) (slice_get (members_by M Objectives) i)) (pos 0)

-- where the totals of the systems begin, those of the objectives, and the repeats
abbrev pub first_system : Model → ℕ
first_system M = count_of M + length (members_by M Objectives)

abbrev pub first_objective : Model → ℕ
first_objective M = first_system M + length M.systems.items

abbrev pub first_repeat : Model → ℕ
first_repeat M = first_objective M + length M.objectives.items

abbrev pub total_id : Model → Whole → ℕ
total_id M (System s) = first_system M + s
total_id M (Objective o) = first_objective M + o

abbrev pub inputs_of_total : Model → Whole → List ℕ
inputs_of_total M whole = map (λ m. id_of M m.term) (members_of M whole) ++ weight_ids M whole

abbrev pub value_of_total : Model → Whole → List Input → Result Input RunFault
value_of_total M whole xs = (weighted_total (length (members_of M whole))).value xs

-- what holds for an id among the terms, the weights, the systems, the objectives and the repeats
abbrev pub by_range : {X : Type 0} → Model → ℕ → X → X → X → X → X → X
by_range M id term weight system objective repeated =
    cond (nat_lt id (count_of M)) term (cond (nat_lt id (first_system M)) weight (cond (nat_lt id (first_objective M)) system (cond (nat_lt id (first_repeat M)) objective repeated)))

abbrev pub inputs_in_whole : Model → ℕ → List ℕ
inputs_in_whole M id =
    by_range M id (inputs_of M id) [] (inputs_of_total M (System (id - first_system M))) (inputs_of_total M (Objective (id - first_objective M))) (total_id M (Objective (id - first_repeat M)) ∷ [])

abbrev pub whole_graph : (ℕ → NumberRule) → Model → Graph
whole_graph users M = record {
  size = first_repeat M + length M.objectives.items;
  inputs = inputs_in_whole M;
  is_free = λ id. nat_lt id (cells_of M) && is_empty (inputs_in_whole M id);
  op = λ id xs. by_range M id ((model_graph users M).op id xs) (Ok (Int (weight_at M (id - count_of M)))) (value_of_total M (System (id - first_system M)) xs) (value_of_total M (Objective (id - first_objective M)) xs) (repeat.value xs);
}
