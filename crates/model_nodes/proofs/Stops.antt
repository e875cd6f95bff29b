-- No cell of a model fails, and a node's fault is the model's at its place.
use Rattle.std.proofs.Common.{◌≡◌, ℕ, ℤ, ◌-◌, ◌<◌, ◌≤◌, Bool, true, false, cond, nat_lt, ◌&&◌, inl, inr, List, [], map, Some, length, refl, sym, ap, ◌∙◌, slice_get, Result, Err, Vec, arith}
use Rattle.std.specs.Prelude.{unwrap_or}
use Rattle.std.specs.declared.alloc.Global.{Global}
use Rattle.std.proofs.lemmas.Bool.{cases_lt}
use Rattle.cbl_base.specs.NodeLaw.{Rule}
use Rattle.cbl_base.specs.NumberRule.{NumberRule}
use Rattle.cbl_base.specs.declared.faults.RunFault.{RunFault}
use Rattle.cbl_base.specs.declared.ids.NodeId.{NodeId}
use Rattle.cbl_base.specs.declared.input.Input.{Input}
use Rattle.cbl_base.specs.declared.place.Place.{Place}
use Rattle.graph_values.specs.Members.{cells_of}
use Rattle.graph_values.specs.Totals.{IsFaultAt}
use Rattle.graph_values.specs.WholeGraphs.{total_id}
use Rattle.model_values.specs.Fresh.{Fresh, fresh_of}
use Rattle.model_values.specs.declared.failure.Failure.{Failure}
use Rattle.store_build.specs.Aims.{AreLinked, graph_over}
use Rattle.store_build.specs.Lists.{list_in}
use Rattle.store_build.specs.Stops.{FailsFirst, IsStop}
use Rattle.store_build.specs.declared.parts.StoreFault.{StoreFault}
use Rattle.store_build.specs.declared.parts.StoreFault.TheVariants.{Node, NoMemory}
use Rattle.store_build.proofs.GatherLemmas.{before_first}
use Rattle.store_turns.specs.Meaning.{come_to, ids_of, is_empty, rule_value, the_one, values_of, with_value}
use Rattle.store_turns.specs.declared.outcome.Outcome.{Outcome}
use Rattle.store_turns.specs.declared.outcome.Outcome.TheVariants.{Value, Fails, Missing}
use Rattle.store_laws.specs.ModelTouch.{many_nodes}
use Rattle.term_model.specs.declared.model.Model.{Model}
use Rattle.model_nodes.specs.Making.{ArePlaces}
use Rattle.model_nodes.specs.StopPlaces.{IsBehind}

one_never : (o : Outcome) (fault : RunFault) → come_to the_one (with_value o (Some [])) ≡ Fails fault → ⊥
one_never (Value x) fault e = cc
one_never (Fails f) fault e = cc
one_never Missing fault e = cc

value_never : (x : Input) (o : Outcome) (fault : RunFault) → o ≡ Value x → o ≡ Fails fault → ⊥
value_never x o fault e f = let c : Value x ≡ Fails fault = sym e ∙ f in cc

module _ (rules : List Rule) (first : ℕ) (lists : List (Vec NodeId Global)) (layers : List ℕ) (linked : AreLinked rules first lists layers) (free : ℕ → Input) (id : ℕ) (fault : RunFault) (fails : FailsFirst (graph_over rules first lists) free id fault) where
  cell_never : id < first → ⊥
  cell_never lt = by (is_empty (ids_of (list_in lists id))) refl
    where
      low : nat_lt id first ≡ true
      low = before_first id first lt

      by : (b : Bool) → is_empty (ids_of (list_in lists id)) ≡ b → ⊥
      by true e = value_never (free id) (fails.outcome id) fault (fails.meaning.cells id fails.here.0 (ap (λ b. b && is_empty (ids_of (list_in lists id))) low ∙ e)) fails.here.1
      by false e =
          let own = linked.defined id low e in
          one_never (fails.outcome own.0) fault
          (sym (fails.meaning.nodes id fails.here.0 (ap (λ b. b && is_empty (ids_of (list_in lists id))) low ∙ e)
          ∙ ap (λ is. come_to ((graph_over rules first lists).op id) (values_of (map fails.outcome is))) own.1
          ∙ ap (λ b. come_to (λ xs. cond b (the_one xs) (rule_value (slice_get rules (id - first)) xs)) (with_value (fails.outcome own.0) (Some []))) low) ∙ fails.here.1)

  pub fails_behind : (first ≤ id) × (id < length lists)
  fails_behind = elim (cases_lt id first) [
    | inl low ↦ absurd (cell_never low)
    | inr high ↦ (omega (arith, high), fails.here.0)
  ]

-- so the least failing node that a store tells of is none
pub stops_behind : (M : Model) (rules : List Rule) (lists : List (Vec NodeId Global)) (layers : List ℕ) → AreLinked rules (cells_of M) lists layers → length lists ≡ many_nodes M → (free : ℕ → Input) (stop : StoreFault) → IsStop (graph_over rules (cells_of M) lists) free stop → IsBehind M stop
stops_behind M rules lists layers linked all free (Node node fault) fails =
    let behind = fails_behind rules (cells_of M) lists layers linked free node.0 fault fails in
    let within = behind.1 in
    (behind.0, omega (arith, within, all))
stops_behind M rules lists layers linked all free NoMemory fails = tt

-- the place that is kept for the node is that of the model's fault
pub fault_placed : (users : ℕ → NumberRule) (M : Model) (a : List ℤ) (places : List Place) (id : ℕ) (fault : RunFault) (place : Place) → length places ≡ many_nodes M → ArePlaces M places → (cells_of M ≤ id) × (id < many_nodes M) →
    slice_get places id ≡ Some place → IsFaultAt users M a (total_id M) id fault → fresh_of users M a ≡ Err (record { place = place; fault = fault })
fault_placed users M a places id fault place all are behind at found =
    let le = behind.0 in
    let lt = behind.1 in
    let own = are id found.failure.place le (omega (arith, lt, all)) found.place in
    let same : found.failure.place ≡ place = ap (λ o. unwrap_or o place) (sym own ∙ at) in
    let made : Place → RunFault → Result Fresh Failure = λ p f. Err (record { place = p; fault = f }) in
    found.fresh ∙ ap (λ p. made p found.failure.fault) same ∙ ap (λ f. made place f) found.fault
