-- The node of each part of a model fits at its place.
use Rattle.std.proofs.Common.{◌≡◌, ℕ, ℤ, ◌+◌, ◌-◌, ◌<◌, ◌≤◌, inl, inr, cond, List, [], ◌∷◌, map, Some, None, length, sym, ap, ◌∙◌, slice_get, arith}
use Rattle.std.specs.Option.{option_and_then}
use Rattle.std.proofs.lemmas.Option.{slice_get_within}
use Rattle.cbl_base.specs.NodeLaw.{Rule}
use Rattle.cbl_base.specs.NumberRule.{NumberRule}
use Rattle.cbl_base.specs.declared.ids.NodeId.{NodeId}
use Rattle.cbl_base.specs.declared.input.Input.TheVariants.{Int}
use Rattle.cbl_base.specs.declared.place.Place.{Place}
use Rattle.cbl_violations.specs.Violations.Repeat.{repeat}
use Rattle.cbl_violations.specs.Violations.WeightedTotal.{weighted_total}
use Rattle.model_values.specs.Wholes.{IsOf, place_of as place_of_whole}
use Rattle.model_values.specs.declared.wholes.Whole.{Whole}
use Rattle.model_values.specs.declared.wholes.Whole.TheVariants.{System, Objective}
use Rattle.node_kinds.specs.ConstantRule.{rule_of_constant}
use Rattle.store_build.proofs.GatherLemmas.{past_first}
use Rattle.store_turns.specs.Meaning.{ids_of}
use Rattle.term_graph.specs.Heads.{IsPlaceOf, head_by, head_of, place_of}
use Rattle.term_graph.specs.Ids.{id_among}
use Rattle.term_graph.specs.declared.head.Head.{Head}
use Rattle.term_model.specs.Subterms.{arguments_of, distinct_subterms}
use Rattle.term_model.specs.declared.model.Model.{Model}
use Rattle.term_model.specs.declared.term.Term.{Term}
use Rattle.term_model.specs.declared.term.Term.TheOpen.{Term-F}
use Rattle.term_model.specs.declared.term.Term.TheViews.{out-Term}
use Rattle.graph_values.specs.Graphs.{count_of, inputs_of_cell, inputs_of_node, term_at, term_defined}
use Rattle.graph_values.specs.Members.{cells_of, members_of}
use Rattle.graph_values.specs.WholeGraphs.{first_objective, first_repeat, first_system, inputs_in_whole, inputs_of_total, total_id, weight_at}
use Rattle.graph_values.proofs.Wholes.{in_objectives, in_repeats, in_systems, in_terms, in_weights}
use Rattle.model_nodes.specs.HeadRules.{rule_of_head}
use Rattle.model_nodes.specs.Making.{About, Fits}
use Rattle.model_nodes.specs.WholeNodes.{rule_by, rule_in_whole, rule_of_subterm, rule_of_total}

no_less : (k n : ℕ) → (n + k) - n ≡ k
no_less k n = omega arith

-- what has a head computes by it
rule_headed : (users : ℕ → NumberRule) (y : Term-F Term) (head : Head) → head_by y ≡ Some head → rule_by users y ≡ Some (rule_of_head users head)
rule_headed users (Term-F.Const x) head e = ap (λ h. option_and_then (λ (g : Head). Some (rule_of_head users g)) h) e
rule_headed users (Term-F.ConstSet s) head e = ap (λ h. option_and_then (λ (g : Head). Some (rule_of_head users g)) h) e
rule_headed users (Term-F.Var v) head e = let c : None ≡ Some head = e in cc
rule_headed users (Term-F.Node op args place) head e = ap (λ h. option_and_then (λ (g : Head). Some (rule_of_head users g)) h) e

-- a total stands behind the subterms, and no other at its place
total_behind : (M : Model) (whole : Whole) → first_system M ≤ total_id M whole
total_behind M (System s) = omega arith
total_behind M (Objective o) = omega arith

total_before : (M : Model) (whole : Whole) → IsOf M whole → total_id M whole < first_repeat M
total_before M (System s) own = omega (arith, own)
total_before M (Objective o) own = omega (arith, own)

one_total : (M : Model) (one other : Whole) → IsOf M one → IsOf M other → total_id M one ≡ total_id M other → one ≡ other
one_total M (System s) (System t) a b e = (let same : s ≡ t = omega (arith, e) in ap (λ k. System k) same)
one_total M (System s) (Objective o) a b e = absurd (omega (arith, a, e))
one_total M (Objective o) (System s) a b e = absurd (omega (arith, b, e))
one_total M (Objective o) (Objective p) a b e = (let same : o ≡ p = omega (arith, e) in ap (λ k. Objective k) same)

module _ (about : About) where
  abbrev M : Model
  M = about.model

  pub fits_term : (id k : ℕ) (t : Term) (head : Head) (rule : Rule) (inputs : List NodeId) (place : Place) → id ≡ cells_of M + k → slice_get (distinct_subterms M) k ≡ Some t → head_of t ≡ Some head → rule ≡ rule_of_head about.users head →
      ids_of inputs ≡ map (id_among (cells_of M) (distinct_subterms M)) (arguments_of (out-Term t)) → IsPlaceOf t place → Fits about id rule inputs place
  fits_term id k t head rule inputs place is at headed ruled inputs_are placed =
      let within = slice_get_within (distinct_subterms M) k t at in
      let low : id < count_of M = omega (arith, is, within) in
      let le : cells_of M ≤ id = omega (arith, is) in
      let place_k : id - cells_of M ≡ k = omega (arith, is) in
      let here : term_at M id ≡ Some t = ap (slice_get (distinct_subterms M)) place_k ∙ at in
      record {
        behind = le;
        inputs_are = inputs_are
            ∙ sym (in_terms M id _ _ _ _ _ low ∙ ap (λ b. cond b (inputs_of_cell M (term_defined M id)) (inputs_of_node M (term_at M id))) (past_first id (cells_of M) le) ∙ ap (inputs_of_node M) here);
        ruled = in_terms M id _ _ _ _ _ low ∙ ap (rule_of_subterm about.users) here ∙ rule_headed about.users (out-Term t) head headed ∙ ap (λ r. Some r) (sym ruled);
        placed = λ p known. elim known [
          | inl own ↦ placed p (sym (ap (option_and_then place_of) here) ∙ own.1)
          | inr own ↦ (let behind = total_behind M own.0 in let same = own.2 in absurd (omega (arith, low, behind, same)))
        ];
      }

  pub fits_weight : (id : ℕ) (x : ℤ) (rule : Rule) (inputs : List NodeId) (place : Place) → count_of M ≤ id → id < first_system M → weight_at M (id - count_of M) ≡ x → rule ≡ rule_of_constant (Int x) → inputs ≡ [] → Fits about id rule inputs place
  fits_weight id x rule inputs place le lt weight ruled none = record {
    behind = omega (arith, le);
    inputs_are = ap ids_of none ∙ sym (in_weights M id _ _ _ _ _ le lt);
    ruled = in_weights M id _ _ _ _ _ le lt ∙ ap (λ w. Some (rule_of_constant (Int w))) weight ∙ ap (λ r. Some r) (sym ruled);
    placed = λ p known. elim known [
      | inl own ↦ (let low = own.0 in absurd (omega (arith, le, low)))
      | inr own ↦ (let behind = total_behind M own.0 in let same = own.2 in absurd (omega (arith, lt, behind, same)))
    ];
  }

  total_by : (whole : Whole) → IsOf M whole → (inputs_in_whole M (total_id M whole) ≡ inputs_of_total M whole) × (rule_in_whole about.users M (total_id M whole) ≡ rule_of_total M whole)
  total_by (System s) own =
      let id = first_system M + s in
      let le : first_system M ≤ id = omega arith in
      let lt : id < first_objective M = omega (arith, own) in (
        in_systems M id _ _ _ _ _ le lt ∙ ap (λ k. inputs_of_total M (System k)) (no_less s (first_system M)),
        in_systems M id _ _ _ _ _ le lt ∙ ap (λ k. rule_of_total M (System k)) (no_less s (first_system M)),
      )
  total_by (Objective o) own =
      let id = first_objective M + o in
      let le : first_objective M ≤ id = omega arith in
      let lt : id < first_repeat M = omega (arith, own) in (
        in_objectives M id _ _ _ _ _ le lt ∙ ap (λ k. inputs_of_total M (Objective k)) (no_less o (first_objective M)),
        in_objectives M id _ _ _ _ _ le lt ∙ ap (λ k. rule_of_total M (Objective k)) (no_less o (first_objective M)),
      )

  pub fits_total : (id : ℕ) (whole : Whole) (rule : Rule) (inputs : List NodeId) (place : Place) → IsOf M whole → id ≡ total_id M whole → rule ≡ weighted_total (length (members_of M whole)) → ids_of inputs ≡ inputs_of_total M whole → place ≡ place_of_whole M whole → Fits about id rule inputs place
  fits_total id whole rule inputs place own is ruled inputs_are placed =
      let known = total_by whole own in
      let behind = total_behind M whole in
      record {
        behind = omega (arith, is, behind);
        inputs_are = inputs_are ∙ sym (ap (inputs_in_whole M) is ∙ known.0);
        ruled = ap (rule_in_whole about.users M) is ∙ known.1 ∙ ap (λ r. Some r) (sym ruled);
        placed = λ p at. elim at [
          | inl low ↦ (let lt = low.0 in absurd (omega (arith, lt, is, behind)))
          | inr other ↦ placed ∙ ap (place_of_whole M) (one_total M whole other.0 own other.1 (sym is ∙ other.2)) ∙ other.3
        ];
      }

  pub fits_repeat : (id k : ℕ) (rule : Rule) (inputs : List NodeId) (place : Place) → k < length M.objectives.items → id ≡ first_repeat M + k → rule ≡ repeat → ids_of inputs ≡ total_id M (Objective k) ∷ [] → Fits about id rule inputs place
  fits_repeat id k rule inputs place lt is ruled inputs_are =
      let le : first_repeat M ≤ id = omega (arith, is) in
      let place_k : id - first_repeat M ≡ k = omega (arith, is) in
      record {
        behind = omega (arith, le);
        inputs_are = inputs_are ∙ sym (in_repeats M id _ _ _ _ _ le ∙ ap (λ i. total_id M (Objective i) ∷ []) place_k);
        ruled = in_repeats M id _ _ _ _ _ le ∙ ap (λ r. Some r) (sym ruled);
        placed = λ p at. elim at [
          | inl low ↦ (let few = low.0 in absurd (omega (arith, few, le)))
          | inr other ↦ (let before = total_before M other.0 other.1 in let same = other.2 in absurd (omega (arith, before, same, le)))
        ];
      }
