-- Fresh values are the meaning of a model's graph.
use Rattle.std.proofs.Common.{◌≡◌, ℕ, ℤ, pos, ◌+◌, ◌-◌, ◌<◌, ◌≤◌, ◌⊎◌, inl, inr, true, false, cond, ◌&&◌, List, [], ◌∷◌, map, Option, Some, None, length, get_or, refl, sym, ap, ◌∙◌, slice_get, All, Result, Ok, Err, arith}
use Rattle.std.specs.Prelude.{slice_index_or}
use Rattle.std.specs.Option.{option_and_then, option_map}
use Rattle.std.specs.List.{list_all}
use Rattle.std.proofs.lemmas.Bool.{cases_lt}
use Rattle.std.proofs.lemmas.List.{get_or_append_left}
use Rattle.std.proofs.lemmas.Option.{slice_get-get_or, slice_get_cases}
use Rattle.cbl_base.specs.NumberRule.{NumberRule}
use Rattle.cbl_base.specs.declared.faults.RunFault.{RunFault}
use Rattle.cbl_base.specs.declared.ids.VarId.{VarId}
use Rattle.cbl_base.specs.declared.input.Input.{Input}
use Rattle.cbl_base.specs.declared.input.Input.TheVariants.{Int}
use Rattle.cbl_base.specs.declared.place.Place.{Place}
use Rattle.cbl_operations.specs.RuleOf.{rule_of}
use Rattle.cbl_operations.specs.declared.op.Op.{Op}
use Rattle.model_values.specs.Failures.{failure_at, failure_by, failure_in, failure_of}
use Rattle.model_values.specs.Outcomes.{gathered, operated, outcome_of, outcome_step, value_in}
use Rattle.model_values.specs.VarOutcomes.{outcome_by, outcome_of_term, outcome_of_var}
use Rattle.model_values.specs.declared.failure.Failure.{Failure}
use Rattle.model_values.proofs.FailureLaws.{outcomes_alike}
use Rattle.model_values.proofs.VarLaws.{equals_definition}
use Rattle.store_build.specs.Aims.{start_of}
use Rattle.store_build.proofs.GatherLemmas.{past_first, before_first}
use Rattle.store_turns.specs.Meaning.{IsMeaning, come_to, computed, is_empty, outcome_of as ran, the_one, values_of}
use Rattle.store_turns.specs.declared.outcome.Outcome.{Outcome}
use Rattle.store_turns.specs.declared.outcome.Outcome.TheVariants.{Value, Fails, Missing}
use Rattle.term_count.specs.Codes.{IsNode, is_known}
use Rattle.term_model.specs.Definitions.{IsAcyclic, definition_of, term_of}
use Rattle.term_model.specs.Kinds.{kinds_in}
use Rattle.term_model.specs.Subterms.{arguments_of, distinct_subterms}
use Rattle.term_model.specs.Wellformed.{IsWellFormed}
use Rattle.term_model.specs.declared.model.Definition.{Definition}
use Rattle.term_model.specs.declared.model.Model.{Model}
use Rattle.term_model.specs.declared.term.Term.{Term}
use Rattle.term_model.specs.declared.term.Term.TheOpen.{Term-F}
use Rattle.term_model.specs.declared.term.Term.TheViews.{out-Term, roll-Term}
use Rattle.term_model.specs.declared.term.Term.TheFolds.{fold-roll-Term, map-Term}
use Rattle.term_model.proofs.EqualTerms.{roll_out}
use Rattle.term_model.proofs.VarLaws.{definition_found, definition_kinded}
use Rattle.graph_values.specs.Graphs.{count_of, id_of, inputs_of, inputs_of_cell, inputs_of_node, model_graph, term_at, term_defined, value_by, value_of_node}
use Rattle.graph_values.specs.Outcomes.{came_to, fresh_at, fresh_cell, fresh_term, fresh_var}
use Rattle.graph_values.specs.Members.{cells_of, numbers_of, variables_of, weights_of}
use Rattle.graph_values.proofs.Arguments.{arguments_there, definition_there}
use Rattle.graph_values.proofs.Gathering.{value_part, values_gathered}
use Rattle.graph_values.proofs.KindedTerms.{HasKind, arguments_kinded, subterm_kinded}
use Rattle.graph_values.proofs.TermIds.{at_id, at_ids}
use Rattle.graph_values.proofs.WeightCells.{no_definition}

pub map_map : {X Y Z : Type 0} (f : Y → Z) (g : X → Y) (xs : List X) → map f (map g xs) ≡ map (λ x. f (g x)) xs
map_map f g [] = refl
map_map f g (x ∷ xs) = ap (λ ys. f (g x) ∷ ys) (map_map f g xs)

-- ---- one subterm
-- the value of what came to something
value_came : (x : Option Input) (f : Option Failure) → value_part (came_to x f) ≡ x
value_came (Some x) f = refl
value_came None (Some f) = refl
value_came None None = refl

came_in : (place : Place) (r : Result Input RunFault) → came_to (value_in r) (failure_in place r) ≡ ran r
came_in place (Ok x) = refl
came_in place (Err f) = refl

came_by : (users : ℕ → NumberRule) (op : Op) (place : Place) (v : Option (List Input)) → came_to (operated users op v) (failure_by users op place v) ≡ come_to ((rule_of users op).value) v
came_by users op place (Some xs) = came_in place ((rule_of users op).value xs)
came_by users op place None = refl

module _ (users : ℕ → NumberRule) (env : ℕ → Option Input) where
  pub outcome_layer : (t : Term) (y : Term-F Term) → out-Term t ≡ y → outcome_of users env t ≡ outcome_step users env (map-Term Term (Option Input) (outcome_of users env) y)
  outcome_layer t y e = ap (outcome_of users env) (sym (roll_out t) ∙ ap roll-Term e) ∙ fold-roll-Term (Option Input) (outcome_step users env) y

  -- a subterm comes to what its own operation gives of its arguments' values
  came_layer : (t : Term) (y : Term-F Term) → out-Term t ≡ y → IsNode y → came_to (outcome_of users env t) (failure_at users env y) ≡ come_to (value_by users y) (gathered (map (outcome_of users env) (arguments_of y)))
  came_layer t (Term-F.Const x) e own = ap (λ v. came_to v None) (outcome_layer t (Term-F.Const x) e)
  came_layer t (Term-F.ConstSet s) e own = ap (λ v. came_to v None) (outcome_layer t (Term-F.ConstSet s) e)
  came_layer t (Term-F.Var v) e own = absurd own
  came_layer t (Term-F.Node op args place) e own =
      ap (λ v. came_to v (failure_by users op place (gathered (map (outcome_of users env) args.items)))) (outcome_layer t (Term-F.Node op args place) e)
      ∙ came_by users op place (gathered (map (outcome_of users env) args.items))

  -- ---- the values of arguments
  module _ (M : Model) (o : ℕ → Outcome) (vars : (i : ℕ) → i < variables_of M → value_part (o i) ≡ env i)
      (nodes : (k : ℕ) (u : Term) → slice_get (distinct_subterms M) k ≡ Some u → value_part (o (cells_of M + k)) ≡ outcome_of users env u) where
    var_value : (t : Term) (v : VarId) → out-Term t ≡ Term-F.Var v → v.index < variables_of M → value_part (o v.index) ≡ outcome_of users env t
    var_value t v e lt = vars v.index lt ∙ sym (outcome_layer t (Term-F.Var v) e)

    pub value_at_id : (t : Term) → is_known (distinct_subterms M) t ≡ true → HasKind M t → value_part (o (id_of M t)) ≡ outcome_of users env t
    value_at_id = at_id M (λ id. value_part (o id)) (outcome_of users env) (outcomes_alike users env) var_value nodes

    pub values_at_ids : (ts : List Term) → list_all (is_known (distinct_subterms M)) ts ≡ true → All (HasKind M) ts → map value_part (map o (map (id_of M) ts)) ≡ map (outcome_of users env) ts
    values_at_ids ts known kinded = map_map value_part o (map (id_of M) ts) ∙ at_ids M (λ id. value_part (o id)) (outcome_of users env) (outcomes_alike users env) var_value nodes ts known kinded

    -- so a subterm's node comes to what the subterm comes to
    pub node_came : IsWellFormed M → (k : ℕ) (t : Term) → slice_get (distinct_subterms M) k ≡ Some t → fresh_term users env (Some t) ≡ come_to (value_of_node users (Some t)) (values_of (map o (inputs_of_node M (Some t))))
    node_came formed k t e =
        let there = arguments_there M k t e in
        let args = arguments_of (out-Term t) in
        came_layer t (out-Term t) refl there.0
        ∙ ap (λ v. come_to (value_by users (out-Term t)) (gathered v)) (sym (values_at_ids args there.1 (arguments_kinded (kinds_in M.vars.items) t (subterm_kinded M formed k t e))))
        ∙ ap (come_to (value_by users (out-Term t))) (sym (values_gathered (map o (map (id_of M) args))))

-- ---- ids
no_less : (k n : ℕ) → (n + k) - n ≡ k
no_less k n = omega arith

module _ (users : ℕ → NumberRule) (M : Model) (a : List ℤ) where
  abbrev env : ℕ → Option Input
  env = outcome_of_var users M a

  pub at_cell : (i : ℕ) → i < cells_of M → fresh_at users M a i ≡ fresh_cell users M a i
  at_cell i lt = ap (λ b. cond b (fresh_cell users M a i) (fresh_term users env (term_at M i))) (before_first i (cells_of M) lt)

  pub at_var : (i : ℕ) → i < variables_of M → fresh_at users M a i ≡ fresh_var env i
  at_var i lt = at_cell i (omega (arith, lt)) ∙ ap (λ b. cond b (fresh_var env i) (Value (start_of (numbers_of M a) i))) (before_first i (variables_of M) lt)

  pub at_weight : (i : ℕ) → variables_of M ≤ i → i < cells_of M → fresh_at users M a i ≡ Value (start_of (numbers_of M a) i)
  at_weight i le lt = at_cell i lt ∙ ap (λ b. cond b (fresh_var env i) (Value (start_of (numbers_of M a) i))) (past_first i (variables_of M) le)

  pub at_past : (id : ℕ) → cells_of M ≤ id → fresh_at users M a id ≡ fresh_term users env (term_at M id)
  at_past id le = ap (λ b. cond b (fresh_cell users M a id) (fresh_term users env (term_at M id))) (past_first id (cells_of M) le)

  pub at_place : (k : ℕ) → fresh_at users M a (cells_of M + k) ≡ fresh_term users env (slice_get (distinct_subterms M) k)
  at_place k = at_past (cells_of M + k) (omega arith) ∙ ap (λ i. fresh_term users env (slice_get (distinct_subterms M) i)) (no_less k (cells_of M))

  pub vars_at : (i : ℕ) → i < variables_of M → value_part (fresh_at users M a i) ≡ env i
  vars_at i lt = ap value_part (at_var i lt) ∙ value_came (env i) None

  pub nodes_at : (k : ℕ) (u : Term) → slice_get (distinct_subterms M) k ≡ Some u → value_part (fresh_at users M a (cells_of M + k)) ≡ outcome_of users env u
  nodes_at k u e = ap value_part (at_place k ∙ ap (fresh_term users env) e) ∙ value_came (outcome_of users env u) (failure_of users env u)

  module _ (formed : IsWellFormed M) (acyclic : IsAcyclic M) (long : length a ≡ length M.vars.items) where
    abbrev o : ℕ → Outcome
    o = fresh_at users M a

    -- ---- nodes
    pub term_there : (id : ℕ) → cells_of M ≤ id → id < cells_of M + length (distinct_subterms M) → (t : Term) × (term_at M id ≡ Some t)
    term_there id le lt = by (slice_get_cases (distinct_subterms M) (id - cells_of M)).1
      where
        by : ((t : Term) × (id - cells_of M < length (distinct_subterms M)) × (term_at M id ≡ Some t) × (get_or (distinct_subterms M) (id - cells_of M) t ≡ t)) ⊎ ((length (distinct_subterms M) ≤ id - cells_of M) × (term_at M id ≡ None)) → (t : Term) × (term_at M id ≡ Some t)
        by (inl h) = (h.0, h.2)
        by (inr h) = let high = h.0 in absurd (omega (arith, le, lt, high))

    node_is : (id : ℕ) → cells_of M ≤ id → id < count_of M → o id ≡ computed (model_graph users M) o id
    node_is id le lt =
        let there = term_there id le lt in
        at_past id le ∙ ap (fresh_term users env) there.1 ∙ node_came users env M o vars_at nodes_at formed (id - cells_of M) there.0 there.1
        ∙ ap (λ u. come_to (value_of_node users u) (values_of (map o (inputs_of_node M u)))) (sym there.1)
        ∙ sym (ap (λ b. come_to (λ xs. cond b (the_one xs) (value_of_node users (term_at M id) xs)) (values_of (map o (cond b (inputs_of_cell M (term_defined M id)) (inputs_of_node M (term_at M id)))))) (past_first id (cells_of M) le))

    -- ---- cells
    cell_inputs : (id : ℕ) → id < cells_of M → inputs_of M id ≡ inputs_of_cell M (term_defined M id)
    cell_inputs id lt = ap (λ b. cond b (inputs_of_cell M (term_defined M id)) (inputs_of_node M (term_at M id))) (before_first id (cells_of M) lt)

    -- the term of a definition
    defined_term : (i d : ℕ) → i < variables_of M → definition_of M i ≡ Some d → (t : Term) × (term_of M.defs.items d ≡ Some t) × HasKind M t
    defined_term i d lt is = let found = definition_found M i d is in (found.0.term, ap (option_map (λ (def : Definition). def.term)) found.1, definition_kinded M formed i lt d found.0 is found.1)

    free_is : (id : ℕ) → id < variables_of M → (entry : Option ℕ) → definition_of M id ≡ entry → is_empty (inputs_of_cell M (option_and_then (term_of M.defs.items) entry)) ≡ true → o id ≡ Value (start_of (numbers_of M a) id)
    free_is id lt None is empty =
        let there : slice_get a id ≡ Some (slice_index_or a id (pos 0)) = slice_get-get_or a id (pos 0) (omega (arith, lt, long)) in
        at_var id lt ∙ ap (λ v. came_to v None) (equals_definition users M a acyclic id lt ∙ ap (outcome_by users M a env id) is ∙ ap (option_map (λ z. Int z)) there)
        ∙ ap (λ z. Value (Int z)) (sym (get_or_append_left a (weights_of M) (pos 0) id (omega (arith, lt, long))))
    free_is id lt (Some d) is empty =
        let term = defined_term id d lt is in
        let c : false ≡ true = sym (ap (λ u. is_empty (inputs_of_cell M u)) term.1) ∙ empty in cc

    one_came : (q : Outcome) (v : Option Input) → value_part q ≡ v → came_to v None ≡ come_to the_one (values_of (q ∷ []))
    one_came (Value x) v e = ap (λ w. came_to w None) (sym e)
    one_came (Fails f) v e = ap (λ w. came_to w None) (sym e)
    one_came Missing v e = ap (λ w. came_to w None) (sym e)

    defined_is : (id : ℕ) → id < variables_of M → (entry : Option ℕ) → definition_of M id ≡ entry → is_empty (inputs_of_cell M (option_and_then (term_of M.defs.items) entry)) ≡ false →
        o id ≡ come_to the_one (values_of (map o (inputs_of_cell M (option_and_then (term_of M.defs.items) entry))))
    defined_is id lt None is empty = let c : true ≡ false = empty in cc
    defined_is id lt (Some d) is empty =
        let term = defined_term id d lt is in
        at_var id lt ∙ ap (λ v. came_to v None) (equals_definition users M a acyclic id lt ∙ ap (outcome_by users M a env id) is ∙ ap (outcome_of_term users env) term.1)
        ∙ one_came (o (id_of M term.0)) (outcome_of users env term.0) (value_at_id users env M o vars_at nodes_at term.0 (definition_there M id d term.0 is term.1) term.2)
        ∙ ap (λ u. come_to the_one (values_of (map o (inputs_of_cell M u)))) (sym term.1)

    cell_computed : (id : ℕ) → id < cells_of M → computed (model_graph users M) o id ≡ come_to the_one (values_of (map o (inputs_of_cell M (term_defined M id))))
    cell_computed id lt = ap (λ b. come_to (λ xs. cond b (the_one xs) (value_of_node users (term_at M id) xs)) (values_of (map o (cond b (inputs_of_cell M (term_defined M id)) (inputs_of_node M (term_at M id)))))) (before_first id (cells_of M) lt)

    -- ---- all ids
    free_test : (id : ℕ) → id < cells_of M → (model_graph users M).is_free id ≡ is_empty (inputs_of_cell M (term_defined M id))
    free_test id lt = ap (λ b. b && is_empty (cond b (inputs_of_cell M (term_defined M id)) (inputs_of_node M (term_at M id)))) (before_first id (cells_of M) lt)

    weight_free : (id : ℕ) → variables_of M ≤ id → is_empty (inputs_of_cell M (term_defined M id)) ≡ true
    weight_free id le = ap (λ d. is_empty (inputs_of_cell M (option_and_then (term_of M.defs.items) d))) (no_definition M formed id le)

    node_test : (id : ℕ) → cells_of M ≤ id → (model_graph users M).is_free id ≡ false
    node_test id le = ap (λ b. b && is_empty (cond b (inputs_of_cell M (term_defined M id)) (inputs_of_node M (term_at M id)))) (past_first id (cells_of M) le)

    pub fresh_is_meaning : IsMeaning (model_graph users M) (start_of (numbers_of M a)) o
    fresh_is_meaning = record {
      cells = λ id lt is. elim (cases_lt id (cells_of M)) [
        | inl low ↦
            elim (cases_lt id (variables_of M)) [
              | inl var ↦ free_is id var (definition_of M id) refl (sym (free_test id low) ∙ is)
              | inr weight ↦ at_weight id (omega (arith, weight)) low
            ]
        | inr high ↦ (let c : false ≡ true = sym (node_test id (omega (arith, high))) ∙ is in cc)
      ];
      nodes = λ id lt is. elim (cases_lt id (cells_of M)) [
        | inl low ↦
            elim (cases_lt id (variables_of M)) [
              | inl var ↦ defined_is id var (definition_of M id) refl (sym (free_test id low) ∙ is) ∙ sym (cell_computed id low)
              | inr weight ↦ (let c : true ≡ false = sym (weight_free id (omega (arith, weight))) ∙ sym (free_test id low) ∙ is in cc)
            ]
        | inr high ↦ node_is id (omega (arith, high)) lt
      ];
    }
