-- The nodes of a model are what a store of it asks for, and the graph and the rules that such a store keeps are the model's.
use Rattle.std.proofs.Common.{◌≡◌, ℕ, ℤ, ◌-◌, ◌<◌, ◌≤◌, List, length, slice_get, sym, ap, ◌∙◌, subst, Vec, arith}
use Rattle.std.proofs.lemmas.List.{length-map}
use Rattle.std.specs.declared.alloc.Global.{Global}
use Rattle.cbl_base.specs.NodeLaw.{Rule}
use Rattle.cbl_base.specs.declared.ids.NodeId.{NodeId}
use Rattle.graph_values.specs.Links.{AreModelLinks, AreTakers}
use Rattle.graph_values.specs.Members.{cells_of, numbers_of, variables_of}
use Rattle.graph_values.specs.WholeGraphs.{total_id}
use Rattle.graph_values.proofs.WeightCells.{length_numbers}
use Rattle.model_store.specs.ModelStores.{StopsAt}
use Rattle.model_store.specs.Settings.{AreNodesOf, AreStartsOf, IsSetting, Setting, numbers_in, users_in}
use Rattle.model_values.specs.declared.wholes.Whole.{Whole}
use Rattle.store_build.specs.Aims.{AreLinked, graph_over, start_of}
use Rattle.store_build.specs.Lists.{list_in}
use Rattle.store_build.specs.Stops.{IsStop}
use Rattle.store_build.specs.declared.parts.StoreFault.{StoreFault}
use Rattle.store_laws.specs.ModelTouch.{IsWhole, many_nodes}
use Rattle.store_turns.specs.Meaning.{Graph}
use Rattle.term_model.specs.Definitions.{IsAcyclic}
use Rattle.term_model.specs.Wellformed.{IsWellFormed}
use Rattle.term_model.specs.declared.model.Model.{Model}
use Rattle.model_nodes.specs.StopPlaces.{IsBehind}
use Rattle.model_nodes.specs.WholeNodes.{AreWholeNodes, rule_in_whole}
use Rattle.model_nodes.proofs.Stops.{stops_behind}
use Rattle.model_nodes.proofs.WholeLinks.{nodes_linked, nodes_take, nodes_whole}

module _ (setting : Setting) (M : Model) (a : List ℤ) (model : setting.model ≡ M) (assigned : setting.assignment ≡ a) (given : IsSetting setting) where
  pub own_formed : IsWellFormed M
  own_formed = subst IsWellFormed model given.0.formed

  pub own_acyclic : IsAcyclic M
  own_acyclic = subst IsAcyclic model given.0.acyclic

  pub own_long : length a ≡ variables_of M
  own_long = sym (ap length assigned) ∙ given.0.long ∙ ap variables_of model

  own_numbers : numbers_of M a ≡ numbers_in setting
  own_numbers = ap (λ N. numbers_of N a) (sym model) ∙ ap (numbers_of setting.model) (sym assigned)

  module _ {Z : Type 0} (rules : List Rule) (lists : List (Vec NodeId Z)) (start : List ℤ) (is : start ≡ numbers_of M a) where
    cells_here : length start ≡ cells_of M
    cells_here = ap length is ∙ length_numbers M a own_long

    pub start_stored : AreStartsOf setting rules start lists
    start_stored = (cells_here ∙ ap cells_of (sym model), λ id lt free. ap (λ ns. start_of ns id) (is ∙ own_numbers))

    pub linked_stored : (layers : List ℕ) → AreLinked rules (cells_of M) lists layers → AreLinked rules (length start) lists layers
    linked_stored layers linked = subst (λ (n : ℕ). AreLinked rules n lists layers) (sym cells_here) linked

    pub whole_stored : (g : Graph) → g ≡ graph_over rules (length start) lists → AreWholeNodes (users_in setting) M rules lists → IsWhole (users_in setting) M g
    whole_stored g same are =
        subst (λ (h : Graph). IsWhole (users_in setting) M h) (sym (same ∙ ap (λ n. graph_over rules n lists) cells_here)) (nodes_whole (users_in setting) M rules lists are)

    pub rules_stored : (held : List Rule) → held ≡ rules → AreWholeNodes (users_in setting) M rules lists → (id : ℕ) → cells_of M ≤ id → id < many_nodes M → slice_get held (id - cells_of M) ≡ rule_in_whole (users_in setting) M id
    rules_stored held same are id behind there = ap (λ rs. slice_get rs (id - cells_of M)) same ∙ are.rules_are id behind (omega (arith, there, are.size))

    pub short_stored : (g : Graph) (first : ℕ) → g ≡ graph_over rules first lists → ((id : ℕ) → length (list_in lists id) ≤ 4294967296) → (id : ℕ) → length (g.inputs id) ≤ 4294967296
    short_stored g first same short id =
        let long : length (g.inputs id) ≡ length (list_in lists id) = ap (λ (h : Graph). length (h.inputs id)) same ∙ length-map (list_in lists id) (λ (i : NodeId). i.0) in
        subst (λ (n : ℕ). n ≤ 4294967296) (sym long) (short id)

  pub behind_stored : (rules : List Rule) (lists : List (Vec NodeId Global)) (start : List ℤ) → start ≡ numbers_of M a → (layers : List ℕ) → AreLinked rules (cells_of M) lists layers → AreWholeNodes (users_in setting) M rules lists →
      (stop : StoreFault) → StopsAt rules start lists stop → IsBehind setting.model stop
  behind_stored rules lists start is layers linked are stop fails =
      subst (λ (N : Model). IsBehind N stop) (sym model)
      (stops_behind M rules lists layers linked are.size (start_of start) stop (subst (λ (n : ℕ). IsStop (graph_over rules n lists) (start_of start) stop) (cells_here rules lists start is) fails))

  pub nodes_stored : {Z : Type 0} (rules : List Rule) (lists : List (Vec NodeId Z)) → setting.total ≡ total_id M → AreWholeNodes (users_in setting) M rules lists → AreNodesOf setting rules lists
  nodes_stored rules lists total are =
      let users = users_in setting in (
        subst (λ (N : Model). AreModelLinks users N rules lists setting.total) (sym model)
            (subst (λ (t : Whole → ℕ). AreModelLinks users M rules lists t) (sym total) (nodes_linked users M rules lists are)),
        subst (λ (N : Model). AreTakers users N rules lists setting.total) (sym model)
            (subst (λ (t : Whole → ℕ). AreTakers users M rules lists t) (sym total) (nodes_take users M rules lists are)),
      )
