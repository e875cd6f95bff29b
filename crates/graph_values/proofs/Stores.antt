-- What a store is given for a model holds its terms; and a store over a graph that holds a model has the model's
-- values, or ends by its fault.
use Rattle.std.proofs.Common.{◌≡◌, false, List, [], ◌∷◌, map, Err, ℕ, ℤ, ◌-◌, ◌<◌, ◌≤◌, ◌⊎◌, inl, inr, cond, nat_lt, ◌&&◌, length, get_or, Some, None, Vec, Ok, sym, ap, ◌∙◌, slice_get, arith}
use Rattle.std.specs.Prelude.{unwrap_or}
use Rattle.std.proofs.lemmas.Bool.{cases_lt}
use Rattle.std.proofs.lemmas.Option.{slice_get_cases}
use Rattle.cbl_base.specs.NodeLaw.{Rule}
use Rattle.cbl_base.specs.NumberRule.{NumberRule}
use Rattle.cbl_base.specs.declared.faults.RunFault.{RunFault}
use Rattle.cbl_base.specs.declared.ids.NodeId.{NodeId}
use Rattle.cbl_base.specs.declared.input.Input.{Input}
use Rattle.model_values.specs.Fresh.{fresh_of}
use Rattle.model_values.specs.Wholes.{IsOf}
use Rattle.model_values.specs.declared.wholes.Whole.{Whole}
use Rattle.model_values.specs.declared.wholes.Whole.TheVariants.{System, Objective}
use Rattle.store_build.specs.Aims.{graph_over, start_of}
use Rattle.store_build.specs.Frames.{cell_of}
use Rattle.store_build.specs.Kept.{IsKept}
use Rattle.store_build.specs.Lists.{list_in}
use Rattle.store_build.specs.Stops.{IsStop}
use Rattle.store_build.specs.declared.parts.StoreFault.{StoreFault}
use Rattle.store_build.specs.declared.parts.StoreFault.TheVariants.{Node, NoMemory}
use Rattle.store_build.proofs.GatherLemmas.{past_first, before_first}
use Rattle.store_turns.specs.Meaning.{Graph, IsMeaning, graph_of, ids_of, is_empty, rule_value, the_one}
use Rattle.store_turns.specs.declared.frame.Frame.{Frame}
use Rattle.store_turns.specs.declared.outcome.Outcome.{Outcome}
use Rattle.store_turns.specs.declared.outcome.Outcome.TheVariants.{Value}
use Rattle.term_graph.specs.Heads.{head_by, head_of}
use Rattle.term_graph.specs.declared.head.Head.{Head}
use Rattle.term_model.specs.Definitions.{IsAcyclic}
use Rattle.term_model.specs.Subterms.{distinct_subterms}
use Rattle.term_model.specs.Wellformed.{IsWellFormed}
use Rattle.term_model.specs.declared.model.Model.{Model}
use Rattle.term_model.specs.declared.term.Term.{Term}
use Rattle.term_model.specs.declared.term.Term.TheOpen.{Term-F}
use Rattle.term_model.specs.declared.term.Term.TheViews.{out-Term}
use Rattle.graph_values.specs.Graphs.{HoldsTerms, count_of, model_graph, term_at, value_by, value_of_node}
use Rattle.graph_values.specs.Links.{AreAssigned, AreLinks, AreModelLinks, AreNumbers, AreWeighed, IsModelStop, IsTotalLink, value_of_head}
use Rattle.graph_values.specs.Members.{cells_of, members_of, numbers_of}
use Rattle.graph_values.specs.Totals.{AreConstants, AreWeights, HoldsModel, IsTotal, NeverFails, values_at}
use Rattle.graph_values.proofs.HeldModels.{model_fault, model_values}

-- ---- the head of a subterm says what its own operation gives
head_value : (users : ℕ → NumberRule) (y : Term-F Term) (head : Head) (xs : List Input) → head_by y ≡ Some head → value_by users y xs ≡ value_of_head users head xs
head_value users (Term-F.Const x) head xs e = ap (λ o. value_of_head users (unwrap_or o head) xs) e
head_value users (Term-F.ConstSet s) head xs e = ap (λ o. value_of_head users (unwrap_or o head) xs) e
head_value users (Term-F.Var v) head xs e = let c : None ≡ Some head = e in cc
head_value users (Term-F.Node op args place) head xs e = ap (λ o. value_of_head users (unwrap_or o head) xs) e

pub term_head_value : (users : ℕ → NumberRule) (t : Term) (head : Head) (xs : List Input) → head_of t ≡ Some head → value_by users (out-Term t) xs ≡ value_of_head users head xs
term_head_value users t head xs e = head_value users (out-Term t) head xs e

-- ---- what a store is given
module _ {Z : Type 0} (users : ℕ → NumberRule) (M : Model) (rules : List Rule) (inputs : List (Vec NodeId Z)) (links : AreLinks users M rules inputs) where
  same_op : (id : ℕ) (xs : List Input) → id < count_of M → (graph_over rules (cells_of M) inputs).op id xs ≡ (model_graph users M).op id xs
  same_op id xs lt = elim (cases_lt id (cells_of M)) [
    | inl low ↦
        ap (λ b. cond b (the_one xs) (rule_value (slice_get rules (id - cells_of M)) xs)) (before_first id (cells_of M) low)
        ∙ sym (ap (λ b. cond b (the_one xs) (value_of_node users (term_at M id) xs)) (before_first id (cells_of M) low))
    | inr high ↦
        ap (λ b. cond b (the_one xs) (rule_value (slice_get rules (id - cells_of M)) xs)) (past_first id (cells_of M) (omega (arith, high)))
        ∙ by (slice_get_cases (distinct_subterms M) (id - cells_of M)).1 (omega (arith, high)) ∙ sym (ap (λ b. cond b (the_one xs) (value_of_node users (term_at M id) xs)) (past_first id (cells_of M) (omega (arith, high))))
  ]
    where
      by : ((t : Term) × (id - cells_of M < length (distinct_subterms M)) × (term_at M id ≡ Some t) × (get_or (distinct_subterms M) (id - cells_of M) t ≡ t)) ⊎ ((length (distinct_subterms M) ≤ id - cells_of M) × (term_at M id ≡ None)) → cells_of M ≤ id →
          rule_value (slice_get rules (id - cells_of M)) xs ≡ value_of_node users (term_at M id) xs
      by (inl h) le =
          let own = links.rules (id - cells_of M) h.0 h.2 in
          ap (λ r. rule_value r xs) own.1 ∙ own.2 xs ∙ sym (ap (λ t. value_of_node users t xs) h.2)
      by (inr h) le = let high = h.0 in absurd (omega (arith, lt, le, high))

  pub links_hold : HoldsTerms users M (graph_over rules (cells_of M) inputs)
  links_hold = record {
    size = links.count;
    inputs = links.inputs;
    free = λ id lt. ap (λ is. nat_lt id (cells_of M) && is_empty is) (links.inputs id lt);
    ops = same_op;
  }

-- ---- with totals
module _ {Z : Type 0} (users : ℕ → NumberRule) (M : Model) (rules : List Rule) (inputs : List (Vec NodeId Z)) where
  abbrev g : Graph
  g = graph_over rules (cells_of M) inputs

  bound_behind : (id : ℕ) → cells_of M ≤ id → g.is_free id ≡ false
  bound_behind id le = ap (λ b. b && is_empty (ids_of (list_in inputs id))) (past_first id (cells_of M) le)

  op_behind : (id : ℕ) (rule : Rule) (xs : List Input) → cells_of M ≤ id → slice_get rules (id - cells_of M) ≡ Some rule → g.op id xs ≡ rule.value xs
  op_behind id rule xs le e = ap (λ b. cond b (the_one xs) (rule_value (slice_get rules (id - cells_of M)) xs)) (past_first id (cells_of M) le) ∙ ap (λ r. rule_value r xs) e

  numbers_constant : (ids : List ℕ) (ws : List ℤ) → AreNumbers M rules inputs ids ws → AreConstants g ids ws
  numbers_constant [] [] h = tt
  numbers_constant [] (w ∷ ws) h = absurd h
  numbers_constant (id ∷ ids) [] h = absurd h
  numbers_constant (id ∷ ids) (w ∷ ws) h =
      let own = h.0.3 in ((h.0.1, bound_behind id h.0.0, h.0.2, op_behind id own.0 [] h.0.0 own.1 ∙ own.2 []), numbers_constant ids ws h.1)

  weights_linked : (whole : Whole) (ids : List ℕ) → AreWeighed M rules inputs whole ids → AreWeights M g whole ids
  weights_linked (System s) ids h = h
  weights_linked (Objective o) ids h = numbers_constant ids (map (λ m. m.weight) (members_of M (Objective o))) h

  total_link : (whole : Whole) (id : ℕ) → IsTotalLink M rules inputs whole id → IsTotal M g whole id
  total_link whole id link =
      let behind = link.behind in
      let le : cells_of M ≤ id = omega (arith, behind) in
      record {
        behind = link.behind;
        within = link.within;
        bound = bound_behind id le;
        weights = link.weights;
        weighed = weights_linked whole link.weights link.weighed;
        inputs = link.inputs;
        op = λ xs. op_behind id link.rule.0 xs le link.rule.1 ∙ link.rule.2 xs;
      }

  pub model_links_hold : (id_of_total : Whole → ℕ) → AreModelLinks users M rules inputs id_of_total → HoldsModel users M g id_of_total
  model_links_hold id_of_total links = record {
    terms = links_hold users M rules inputs links.terms;
    totals = λ whole there. total_link whole (id_of_total whole) (links.totals whole there);
    order = links.order;
    others = λ id le lt. by id le (links.others id le lt);
  }
    where
      by : (id : ℕ) → count_of M ≤ id → ((whole : Whole) × IsOf M whole × (id ≡ id_of_total whole)) ⊎ ((rule : Rule) × (slice_get rules (id - cells_of M) ≡ Some rule) × ((xs : List Input) (fault : RunFault) → rule.value xs ≡ Err fault → ⊥)) →
          ((whole : Whole) × IsOf M whole × (id ≡ id_of_total whole)) ⊎ NeverFails g id
      by id le (inl h) = inl h
      by id le (inr h) = inr (λ xs fault e. h.2 xs fault (sym (op_behind id h.0 xs (omega (arith, le)) h.1) ∙ e))

-- ---- what holds over the free cells' values holds over the numbers that they hold
pub meaning_assigned : (g : Graph) (a : List ℤ) (free : ℕ → Input) (o : ℕ → Outcome) → AreAssigned g a free → IsMeaning g free o → IsMeaning g (start_of a) o
meaning_assigned g a free o assigned meaning = record {
  cells = λ id lt is. meaning.cells id lt is ∙ ap (λ x. Value x) (assigned id lt is);
  nodes = meaning.nodes;
}

module _ (users : ℕ → NumberRule) (M : Model) (a : List ℤ) (id_of_total : Whole → ℕ) (formed : IsWellFormed M) (acyclic : IsAcyclic M) (long : length a ≡ length M.vars.items) where
  pub kept_values : (rules : List Rule) (helds : List (List Input)) (frame : Frame) (cells : List Input) → HoldsModel users M (graph_of rules frame) id_of_total → AreAssigned (graph_of rules frame) (numbers_of M a) (cell_of cells) → IsKept rules helds frame cells →
      fresh_of users M a ≡ Ok (values_at M id_of_total (cell_of cells))
  kept_values rules helds frame cells holds assigned kept =
      model_values users M a formed acyclic long (graph_of rules frame) id_of_total holds (cell_of cells) (meaning_assigned (graph_of rules frame) (numbers_of M a) (cell_of cells) (λ j. Value (cell_of cells j)) assigned kept.fresh)

  pub stop_fault : (g : Graph) (free : ℕ → Input) (stop : StoreFault) → HoldsModel users M g id_of_total → AreAssigned g (numbers_of M a) free → IsStop g free stop → IsModelStop users M a id_of_total stop
  stop_fault g free (Node node fault) holds assigned first =
      let own = model_fault users M a formed acyclic long g id_of_total holds node.0 fault
      (record { outcome = first.outcome; meaning = meaning_assigned g (numbers_of M a) free first.outcome assigned first.meaning; here = first.here; least = first.least }) in
      record { failure = own.0; fresh = own.1; fault = own.2; place = own.3 }
  stop_fault g free NoMemory holds assigned first = tt
