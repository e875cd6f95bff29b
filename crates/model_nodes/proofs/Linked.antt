-- The nodes of a model that were made are all of them, and a store may be built of them.
use Rattle.std.proofs.Common.{◌≡◌, ℕ, ◌+◌, ◌<◌, true, false, cond, nat_lt, List, [], ◌∷◌, Option, Some, None, length, refl, sym, ap, ◌∙◌, subst, Vec, arith}
use Rattle.std.proofs.lemmas.Bool.{ltb-true, and_parts}
use Rattle.cbl_base.specs.NodeLaw.{Rule}
use Rattle.cbl_base.specs.declared.ids.NodeId.{NodeId}
use Rattle.cbl_base.specs.declared.place.Place.{Place}
use Rattle.store_build.specs.Aims.{AreLinked}
use Rattle.store_build.specs.Lists.{list_in}
use Rattle.store_build.proofs.GatherLemmas.{before_first}
use Rattle.store_turns.specs.Meaning.{AreLayers, Each, ids_of, is_empty}
use Rattle.store_laws.specs.ModelTouch.{many_nodes}
use Rattle.term_model.specs.Definitions.{IsAcyclic}
use Rattle.term_model.specs.Wellformed.{IsWellFormed}
use Rattle.term_model.specs.declared.model.Model.{Model}
use Rattle.term_model.specs.declared.term.Term.{Term}
use Rattle.graph_values.specs.Graphs.{id_of, inputs_of_cell, inputs_of_node, term_at, term_defined}
use Rattle.graph_values.specs.Members.{cells_of}
use Rattle.graph_values.specs.WholeGraphs.{first_repeat, whole_graph}
use Rattle.graph_values.proofs.Wholes.{in_terms}
use Rattle.graph_values.proofs.WholeLayers.{layer_in, whole_layers}
use Rattle.model_nodes.specs.Making.{About, AreMade, ArePlaces}
use Rattle.model_nodes.specs.Planned.{ArePlanned, HasLayers}
use Rattle.model_nodes.specs.WholeNodes.{AreWholeNodes}

module _ {Z : Type 0} (about : About) (rules : List Rule) (lists : List (Vec NodeId Z)) (places : List Place) (made : AreMade about rules lists places) (all : length lists ≡ many_nodes about.model) where
  abbrev M : Model
  M = about.model

  pub made_whole : AreWholeNodes about.users M rules lists
  made_whole = record {
    size = all;
    count = (let count = made.count in omega (arith, count, all));
    inputs = made.inputs;
    rules_are = made.rules_are;
  }

  pub made_layers : (layer : ℕ → ℕ) → AreLayers (whole_graph about.users M) layer → HasLayers lists
  made_layers layer are = (
    layer,
    λ id lt.
        subst (λ (n : ℕ). Each (λ i. (i < n) × (layer i < layer id)) (ids_of (list_in lists id))) (sym all)
        (subst (λ (is : List ℕ). Each (λ i. (i < many_nodes M) × (layer i < layer id)) is) (sym (made.inputs id lt)) (are id (omega (arith, lt, all)))),
  )

  one_input : (o : Option Term) → is_empty (inputs_of_cell M o) ≡ false → (i : ℕ) × (inputs_of_cell M o ≡ i ∷ [])
  one_input (Some t) some = (id_of M t, refl)
  one_input None some = let c : true ≡ false = some in cc

  cell_inputs : (id : ℕ) → id < cells_of M → ids_of (list_in lists id) ≡ inputs_of_cell M (term_defined M id)
  cell_inputs id lt =
      made.inputs id (omega (arith, lt, all)) ∙ in_terms M id _ _ _ _ _ (omega (arith, lt))
      ∙ ap (λ b. cond b (inputs_of_cell M (term_defined M id)) (inputs_of_node M (term_at M id))) (before_first id (cells_of M) lt)

  pub made_linked : (layers : List ℕ) → ArePlanned lists layers → AreLinked rules (cells_of M) lists layers
  made_linked layers planned = record {
    few = made.few;
    count = (let count = made.count in omega (arith, count, all));
    short = made.short;
    defined = λ id low some. (let is = cell_inputs id (ltb-true id (cells_of M) low) in
        let own = one_input (term_defined M id) (subst (λ (is : List ℕ). is_empty is ≡ false) is some) in (own.0, is ∙ own.1));
    planned = planned.count;
    rising = planned.rising rules (cells_of M);
    lowest = λ id free. (let low = ltb-true id (cells_of M) (and_parts (nat_lt id (cells_of M)) (is_empty (ids_of (list_in lists id))) free).0 in
        planned.lowest rules (cells_of M) id (omega (arith, low, all)) free);
  }

-- ---- the same of a model that is the one that it is about
module _ {Z : Type 0} (about : About) (M : Model) (same : about.model ≡ M) (rules : List Rule) (lists : List (Vec NodeId Z)) (places : List Place) (made : AreMade about rules lists places) (all : length lists ≡ many_nodes M) where
  all_own : length lists ≡ many_nodes about.model
  all_own = all ∙ ap many_nodes (sym same)

  pub nodes_given : AreWholeNodes about.users M rules lists
  nodes_given = subst (λ (N : Model). AreWholeNodes about.users N rules lists) same (made_whole about rules lists places made all_own)

  pub layers_given : IsWellFormed M → IsAcyclic M → HasLayers lists
  layers_given formed acyclic =
      let own_formed = subst IsWellFormed (sym same) formed in
      let own_acyclic = subst IsAcyclic (sym same) acyclic in
      made_layers about rules lists places made all_own (layer_in about.users about.model own_formed own_acyclic) (whole_layers about.users about.model own_formed own_acyclic)

  pub linked_given : (layers : List ℕ) → ArePlanned lists layers → AreLinked rules (cells_of M) lists layers
  linked_given layers planned = subst (λ (N : Model). AreLinked rules (cells_of N) lists layers) same (made_linked about rules lists places made all_own layers planned)

  pub places_given : ArePlaces M places
  places_given = subst (λ (N : Model). ArePlaces N places) same made.places_are

  pub places_all : length places ≡ many_nodes M
  places_all = made.placed ∙ all

-- the repeats are the last
pub repeats_counted : (N M : Model) → N ≡ M → (n count : ℕ) → count ≡ length M.objectives.items → n ≡ first_repeat N + count → n ≡ many_nodes M
repeats_counted N M same n count is at = at ∙ ap (λ k. k + count) (ap first_repeat same) ∙ ap (λ k. first_repeat M + k) is
