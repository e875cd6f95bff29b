-- Nodes that were made so far, and one more.
use Rattle.std.proofs.Common.{◌≡◌, ℕ, ◌+◌, ◌-◌, ◌<◌, ◌≤◌, inl, inr, cond, List, [], ◌∷◌, ◌++◌, map, Option, Some, None, length, sym, ap, ◌∙◌, subst, slice_get, Vec, arith}
use Rattle.std.proofs.lemmas.Bool.{cases_lt}
use Rattle.std.proofs.lemmas.List.{length-map, length_push, map_push}
use Rattle.cbl_base.specs.NodeLaw.{Rule}
use Rattle.cbl_base.specs.declared.ids.NodeId.{NodeId}
use Rattle.cbl_base.specs.declared.place.Place.{Place}
use Rattle.store_build.specs.Lists.{list_in}
use Rattle.store_build.proofs.GatherLemmas.{before_first}
use Rattle.store_build.proofs.GroupLemmas.{in_past}
use Rattle.store_turns.specs.Meaning.{ids_of}
use Rattle.term_model.specs.declared.model.Model.{Model}
use Rattle.term_model.specs.declared.term.Term.{Term}
use Rattle.graph_values.specs.Graphs.{inputs_of, inputs_of_cell, inputs_of_node, term_at, term_defined}
use Rattle.graph_values.specs.Members.{cells_of}
use Rattle.graph_values.specs.Totals.{IsAt}
use Rattle.graph_values.specs.WholeGraphs.{inputs_in_whole, total_id}
use Rattle.graph_values.proofs.Wholes.{in_terms}
use Rattle.model_nodes.specs.CellLists.{AreCellLists}
use Rattle.model_nodes.specs.Making.{About, AreMade, Fits}
use Rattle.model_nodes.specs.WholeNodes.{rule_in_whole}
use Rattle.model_nodes.proofs.PushedLists.{got_new, got_old, in_all, in_new, in_old}

-- ---- one node more
module _ {Z : Type 0} (about : About) (rules : List Rule) (lists : List (Vec NodeId Z)) (places : List Place) (made : AreMade about rules lists places) (rule : Rule) (inputs : Vec NodeId Z) (place : Place) (fits : Fits about (length lists) rule inputs.items place) where
  abbrev M : Model
  M = about.model

  last : (id : ℕ) → length lists ≤ id → id < length lists + 1 → id ≡ length lists
  last id le lt = omega (arith, le, lt)

  inputs_more : (id : ℕ) → id < length lists + 1 → ids_of (list_in (lists ++ inputs ∷ []) id) ≡ inputs_in_whole M id
  inputs_more id lt = elim (cases_lt id (length lists)) [
    | inl low ↦ ap ids_of (in_old lists inputs id low) ∙ made.inputs id low
    | inr high ↦ (let is = last id (omega (arith, high)) lt in
        ap (λ i. ids_of (list_in (lists ++ inputs ∷ []) i)) is ∙ ap ids_of (in_new lists inputs) ∙ fits.inputs_are ∙ sym (ap (inputs_in_whole M) is))
  ]

  rules_more : (id : ℕ) → cells_of M ≤ id → id < length lists + 1 → slice_get (rules ++ rule ∷ []) (id - cells_of M) ≡ rule_in_whole about.users M id
  rules_more id le lt = elim (cases_lt id (length lists)) [
    | inl low ↦ (let count = made.count in got_old rules rule (id - cells_of M) (omega (arith, le, low, count)) ∙ made.rules_are id le low)
    | inr high ↦ (let is = last id (omega (arith, high)) lt in
        let count = made.count in
        let at : id - cells_of M ≡ length rules = omega (arith, is, count) in
        ap (slice_get (rules ++ rule ∷ [])) at ∙ got_new rules rule ∙ sym (ap (rule_in_whole about.users M) is ∙ fits.ruled))
  ]

  places_more : (id : ℕ) (p : Place) → cells_of M ≤ id → id < length (places ++ place ∷ []) → IsAt M (total_id M) id p → slice_get (places ++ place ∷ []) id ≡ Some p
  places_more id p le lt at = elim (cases_lt id (length places)) [
    | inl low ↦ got_old places place id low ∙ made.places_are id p le low at
    | inr high ↦ (let placed = made.placed in
        let long = length_push places place in
        let is : id ≡ length places = omega (arith, high, lt, long) in
        let here : id ≡ length lists = omega (arith, is, placed) in
        ap (slice_get (places ++ place ∷ [])) is ∙ got_new places place ∙ ap (λ q. Some q) (fits.placed p (subst (λ i. IsAt M (total_id M) i p) here at)))
  ]

  pub made_more : length lists < 4294967295 → length inputs.items ≤ 4294967295 → AreMade about (rules ++ rule ∷ []) (lists ++ inputs ∷ []) (places ++ place ∷ [])
  made_more few short =
      let more = length_push lists inputs in
      let ruled = length_push rules rule in
      let placed = length_push places place in
      let count = made.count in
      let behind = fits.behind in
      let same = made.placed in
      record {
        count = omega (arith, more, ruled, count, behind);
        few = omega (arith, more, few);
        inputs = λ id lt. inputs_more id (omega (arith, lt, more));
        short = in_all 4294967296 lists inputs made.short (omega (arith, short));
        rules_are = λ id le lt. rules_more id le (omega (arith, lt, more));
        placed = omega (arith, more, placed, same);
        places_are = places_more;
      }

-- ---- the cells alone
one_at_most : (M : Model) (o : Option Term) → length (inputs_of_cell M o) ≤ 1
one_at_most M (Some t) = omega arith
one_at_most M None = omega arith

pub cells_made : {Z : Type 0} (about : About) (lists : List (Vec NodeId Z)) (places : List Place) → length lists ≤ 4294967295 → length places ≡ length lists → AreCellLists about.model lists → AreMade about [] lists places
cells_made {Z} about lists places few placed are =
    let count = are.count in
    record {
      count = omega (arith, count);
      few = omega (arith, few);
      inputs = λ id lt. are.each id lt ∙ sym (in_terms about.model id _ _ _ _ _ (omega (arith, lt, count)));
      short = short;
      rules_are = λ id le lt. absurd (omega (arith, le, lt, count));
      placed = placed;
      places_are = λ id place le lt at. absurd (omega (arith, le, lt, count, placed));
    }
  where
    short : (id : ℕ) → length (list_in lists id) ≤ 4294967296
    short id = elim (cases_lt id (length lists)) [
      | inl low ↦ (let count = are.count in
          let cell : inputs_of about.model id ≡ inputs_of_cell about.model (term_defined about.model id) =
          ap (λ b. cond b (inputs_of_cell about.model (term_defined about.model id)) (inputs_of_node about.model (term_at about.model id))) (before_first id (cells_of about.model) (omega (arith, low, count))) in
          let long : length (list_in lists id) ≡ length (inputs_of_cell about.model (term_defined about.model id)) = sym (length-map (list_in lists id) (λ (i : NodeId). i.0)) ∙ ap length (are.each id low ∙ cell) in
          let one = one_at_most about.model (term_defined about.model id) in omega (arith, long, one))
      | inr high ↦ (let none = ap length (in_past lists id (omega (arith, high))) in omega (arith, none))
    ]

-- ---- the same of nodes
pub put_made : {N Z : Type 0} (rule : N → Rule) (about : About) (nodes more_nodes : List N) (lists more_lists : List (Vec NodeId Z)) (places more_places : List Place) (node : N) (inputs : Vec NodeId Z) (place : Place) →
    more_nodes ≡ nodes ++ node ∷ [] → more_lists ≡ lists ++ inputs ∷ [] → more_places ≡ places ++ place ∷ [] → length lists < 4294967295 → length inputs.items ≤ 4294967295 →
    AreMade about (map rule nodes) lists places → Fits about (length lists) (rule node) inputs.items place → AreMade about (map rule more_nodes) more_lists more_places
put_made rule about nodes more_nodes lists more_lists places more_places node inputs place n l p few short made fits =
    subst (λ ns. AreMade about (map rule ns) more_lists more_places) (sym n)
    (subst (λ ls. AreMade about (map rule (nodes ++ node ∷ [])) ls more_places) (sym l)
    (subst (λ ps. AreMade about (map rule (nodes ++ node ∷ [])) (lists ++ inputs ∷ []) ps) (sym p)
    (subst (λ rs. AreMade about rs (lists ++ inputs ∷ []) (places ++ place ∷ [])) (sym (map_push rule nodes node)) (made_more about (map rule nodes) lists places made (rule node) inputs place fits few short))))
