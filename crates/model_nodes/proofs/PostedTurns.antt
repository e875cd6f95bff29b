-- One posting more in each of the lists that are made of all postings in turn.
use Rattle.std.proofs.Common.{◌≡◌, ℕ, ◌+◌, ◌≤◌, List, [], ◌∷◌, ◌++◌, take, Some, length, sym, ap, ◌∙◌, subst, slice_get, Vec}
use Rattle.std.proofs.lemmas.List.{take_all, take_more}
use Rattle.std.proofs.lemmas.Option.{get_or_from_slice_get, slice_get_within}
use Rattle.cbl_base.specs.declared.ids.NodeId.{NodeId}
use Rattle.term_graph.specs.Graphs.{IsGraphOf}
use Rattle.term_graph.specs.Ids.{id_among}
use Rattle.term_graph.specs.declared.graph.Graph.{Graph}
use Rattle.term_model.specs.Posting.{term_posted}
use Rattle.term_model.specs.Subterms.{distinct_subterms, once, subterms_posted}
use Rattle.term_model.specs.declared.model.Model.{Model}
use Rattle.term_model.specs.declared.model.Posted.{Posted}
use Rattle.term_model.specs.declared.posting.Side.{Side}
use Rattle.term_model.specs.declared.term.Term.{Term}
use Rattle.graph_values.specs.Graphs.{id_of}
use Rattle.graph_values.specs.Members.{cells_of}
use Rattle.model_nodes.specs.CellLists.{IsDefinedBy}
use Rattle.model_nodes.specs.Gathered.{IsPut}
use Rattle.model_nodes.specs.PostedIds.{ArePostedIds}
use Rattle.model_nodes.proofs.CellSteps.{AreDefinedTo, defined_to_more}
use Rattle.model_nodes.proofs.GatherSteps.{AreGatheredTo, gathered_more}
use Rattle.model_nodes.proofs.PostedTerms.{ids_more}

pub take_turn : {X : Type 0} (xs : List X) (k : ℕ) (x : X) → slice_get xs k ≡ Some x → take (k + 1) xs ≡ take k xs ++ x ∷ []
take_turn xs k x at = take_more xs k x (slice_get_within xs k x at) ∙ ap (λ y. take k xs ++ y ∷ []) (get_or_from_slice_get xs k x x at)

-- the id of a posted term is the model's
own_id : (M : Model) (ids : List NodeId) → ArePostedIds M (cells_of M) M.posted.items ids → (k : ℕ) (p : Posted) (id : NodeId) → slice_get M.posted.items k ≡ Some p → slice_get ids k ≡ Some id →
    (t : Term) → term_posted M p ≡ Some t → id.0 ≡ id_of M t
own_id M ids are k p id at there t is = (are.each k p id at there t is).1

module _ {Z : Type 0} (M : Model) (ids : List NodeId) (are : ArePostedIds M (cells_of M) M.posted.items ids) (k : ℕ) (p : Posted) (id : NodeId) (at : slice_get M.posted.items k ≡ Some p) (there : slice_get ids k ≡ Some id)
    (old new : List (Vec NodeId Z)) (count : length new ≡ length old) where
  pub gathered_turn : (side : Side) → IsPut M side p id old new → AreGatheredTo M side (take k M.posted.items) old → AreGatheredTo M side (take (k + 1) M.posted.items) new
  gathered_turn side put so_far =
      subst (λ ps. AreGatheredTo M side ps new) (sym (take_turn M.posted.items k p at))
      (gathered_more M side (take k M.posted.items) p id old new (own_id M ids are k p id at there) count put so_far)

  pub defined_turn : IsDefinedBy M.defs.items p id old new → AreDefinedTo M (take k M.posted.items) old → AreDefinedTo M (take (k + 1) M.posted.items) new
  defined_turn by so_far =
      subst (λ ps. AreDefinedTo M ps new) (sym (take_turn M.posted.items k p at))
      (defined_to_more M (take k M.posted.items) p id old new (own_id M ids are k p id at there) count by so_far)

module _ (M : Model) (k : ℕ) (p : Posted) (at : slice_get M.posted.items k ≡ Some p) where
  pub graph_turn : (old new : Graph) → ((so_far : List Posted) → IsGraphOf old (once (subterms_posted M so_far)) → IsGraphOf new (once (subterms_posted M (so_far ++ p ∷ [])))) →
      IsGraphOf old (once (subterms_posted M (take k M.posted.items))) → IsGraphOf new (once (subterms_posted M (take (k + 1) M.posted.items)))
  graph_turn old new more are = subst (λ ps. IsGraphOf new (once (subterms_posted M ps))) (sym (take_turn M.posted.items k p at)) (more (take k M.posted.items) are)

  pub ids_turn : (cells : ℕ) (ids new : List NodeId) (id : NodeId) → new ≡ ids ++ id ∷ [] →
      ((t : Term) → term_posted M p ≡ Some t → id.0 ≡ id_among cells (once (subterms_posted M (take k M.posted.items ++ p ∷ []))) t) →
      ArePostedIds M cells (take k M.posted.items) ids → ArePostedIds M cells (take (k + 1) M.posted.items) new
  ids_turn cells ids new id is own are =
      subst (λ js. ArePostedIds M cells (take (k + 1) M.posted.items) js) (sym is)
      (subst (λ ps. ArePostedIds M cells ps (ids ++ id ∷ [])) (sym (take_turn M.posted.items k p at)) (ids_more M cells (take k M.posted.items) p ids id are own))

-- all of them
pub graph_all : (M : Model) (k : ℕ) (graph : Graph) → length M.posted.items ≤ k → IsGraphOf graph (once (subterms_posted M (take k M.posted.items))) → IsGraphOf graph (distinct_subterms M)
graph_all M k graph le are = subst (λ ps. IsGraphOf graph (once (subterms_posted M ps))) (take_all k M.posted.items le) are

pub ids_all : (M : Model) (k cells : ℕ) (ids : List NodeId) → length M.posted.items ≤ k → ArePostedIds M cells (take k M.posted.items) ids → ArePostedIds M cells M.posted.items ids
ids_all M k cells ids le are = subst (λ ps. ArePostedIds M cells ps ids) (take_all k M.posted.items le) are
