-- What equal terms share, and the nodes have of the subterms, the id of a term has of the term.
use Rattle.std.proofs.Common.{◌≡◌, ℕ, ◌+◌, ◌<◌, true, List, [], ◌∷◌, map, Option, Some, refl, sym, ap, ◌∙◌, slice_get, All}
use Rattle.std.specs.List.{list_all, list_any, position_or_len}
use Rattle.std.proofs.lemmas.List.Elements.{All-head, All-tail}
use Rattle.cbl_base.specs.Inputs.{InputKind}
use Rattle.cbl_base.specs.declared.ids.VarId.{VarId}
use Rattle.term_count.specs.Codes.{is_known, is_known_by}
use Rattle.term_count.proofs.PlaceLaws.{and_parts}
use Rattle.term_model.specs.Kinds.{kind_of_term, kind_step, kinds_in}
use Rattle.term_model.specs.SameTerms.{same_term}
use Rattle.term_model.specs.Subterms.{distinct_subterms}
use Rattle.term_model.specs.declared.model.Model.{Model}
use Rattle.term_model.specs.declared.term.Term.{Term}
use Rattle.term_model.specs.declared.term.Term.TheOpen.{Term-F}
use Rattle.term_model.specs.declared.term.Term.TheViews.{out-Term, roll-Term}
use Rattle.term_model.specs.declared.term.Term.TheFolds.{fold-roll-Term}
use Rattle.term_model.proofs.EqualTerms.{roll_out}
use Rattle.graph_values.specs.Graphs.{id_of}
use Rattle.term_graph.specs.Ids.{behind, id_by}
use Rattle.graph_values.specs.Members.{cells_of, variables_of}
use Rattle.graph_values.proofs.Gathering.{found_at}
use Rattle.graph_values.proofs.KindedTerms.{HasKind, variable_within}

module _ {X : Type 0} (M : Model) (of_id : ℕ → X) (of_term : Term → X) (alike : (t u : Term) → same_term t u ≡ true → of_term t ≡ of_term u)
    (vars : (t : Term) (v : VarId) → out-Term t ≡ Term-F.Var v → v.index < variables_of M → of_id v.index ≡ of_term t)
    (nodes : (k : ℕ) (u : Term) → slice_get (distinct_subterms M) k ≡ Some u → of_id (cells_of M + k) ≡ of_term u) where
  at_node : (t : Term) → list_any (same_term t) (distinct_subterms M) ≡ true → of_id (behind (cells_of M) (distinct_subterms M) t) ≡ of_term t
  at_node t known =
      let found = found_at (same_term t) (distinct_subterms M) known in
      nodes (position_or_len (same_term t) (distinct_subterms M)) found.0 found.1 ∙ sym (alike t found.0 found.2)

  at_layer : (t : Term) (y : Term-F Term) → out-Term t ≡ y → is_known_by (distinct_subterms M) t y ≡ true → HasKind M t → of_id (id_by (cells_of M) (distinct_subterms M) t y) ≡ of_term t
  at_layer t (Term-F.Const x) e known kinded = at_node t known
  at_layer t (Term-F.ConstSet s) e known kinded = at_node t known
  at_layer t (Term-F.Var v) e known kinded =
      let kind : kind_of_term (kinds_in M.vars.items) t ≡ kinds_in M.vars.items v.index =
      ap (kind_of_term (kinds_in M.vars.items)) (sym (roll_out t) ∙ ap roll-Term e) ∙ fold-roll-Term (Option InputKind) (kind_step (kinds_in M.vars.items)) (Term-F.Var v) in
      vars t v e (variable_within M t v.index kind kinded)
  at_layer t (Term-F.Node op args place) e known kinded = at_node t known

  pub at_id : (t : Term) → is_known (distinct_subterms M) t ≡ true → HasKind M t → of_id (id_of M t) ≡ of_term t
  at_id t known kinded = at_layer t (out-Term t) refl known kinded

  pub at_ids : (ts : List Term) → list_all (is_known (distinct_subterms M)) ts ≡ true → All (HasKind M) ts → map of_id (map (id_of M) ts) ≡ map of_term ts
  at_ids [] known kinded = refl
  at_ids (t ∷ ts) known kinded =
      let parts = and_parts (is_known (distinct_subterms M) t) (list_all (is_known (distinct_subterms M)) ts) known in
      ap (λ x. x ∷ map of_id (map (id_of M) ts)) (at_id t parts.0 (All-head (HasKind M) t ts kinded)) ∙ ap (λ xs. of_term t ∷ xs) (at_ids ts parts.1 (All-tail (HasKind M) t ts kinded))
