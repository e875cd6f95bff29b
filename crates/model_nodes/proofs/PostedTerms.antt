-- The ids of the terms that were posted, one posting after another.
use Rattle.std.proofs.Common.{◌≡◌, ℕ, ◌<◌, true, inl, inr, List, [], ◌∷◌, ◌++◌, fold, map, Option, Some, None, length, refl, sym, ap, ◌∙◌, subst, slice_get, arith}
use Rattle.std.specs.Prelude.{unwrap_or}
use Rattle.std.proofs.lemmas.Bool.{cases_lt}
use Rattle.std.proofs.lemmas.List.{length_push, map_push}
use Rattle.std.proofs.lemmas.List.Sums.{fold-append}
use Rattle.std.proofs.lemmas.Option.{slice_get_within}
use Rattle.cbl_base.specs.declared.ids.NodeId.{NodeId}
use Rattle.term_count.specs.Codes.{is_known}
use Rattle.term_count.specs.Numbering.{terms_after}
use Rattle.term_count.proofs.Numbered.{joined_push}
use Rattle.term_graph.specs.Graphs.{IsGraphOf}
use Rattle.term_graph.specs.Ids.{id_among}
use Rattle.term_graph.specs.declared.graph.Graph.{Graph}
use Rattle.term_graph.proofs.SharedLaws.{id_stays, known_after}
use Rattle.term_model.specs.Posting.{term_posted}
use Rattle.term_model.specs.Subterms.{joined_terms, once, subterms_posted, subterms_where, with_subterm}
use Rattle.term_model.specs.declared.model.Model.{Model}
use Rattle.term_model.specs.declared.model.Posted.{Posted}
use Rattle.term_model.specs.declared.term.Term.{Term}
use Rattle.model_nodes.specs.PostedIds.{ArePostedIds, IsIdOf}
use Rattle.model_nodes.proofs.PushedLists.{got_new, got_old}

module _ (M : Model) where
  -- the distinct subterms with one posting more
  pub posted_more : (ps : List Posted) (p : Posted) → once (subterms_posted M (ps ++ p ∷ [])) ≡ fold with_subterm (once (subterms_posted M ps)) (subterms_where (term_posted M p))
  posted_more ps p =
      ap (λ tss. once (joined_terms tss)) (map_push (λ q. subterms_where (term_posted M q)) ps p)
      ∙ ap once (joined_push (map (λ q. subterms_where (term_posted M q)) ps) (subterms_where (term_posted M p)))
      ∙ fold-append with_subterm [] (subterms_posted M ps) (subterms_where (term_posted M p))

  pub posted_some : (ps : List Posted) (p : Posted) (t : Term) → term_posted M p ≡ Some t → once (subterms_posted M (ps ++ p ∷ [])) ≡ terms_after (once (subterms_posted M ps)) t
  posted_some ps p t is = posted_more ps p ∙ ap (λ o. fold with_subterm (once (subterms_posted M ps)) (subterms_where o)) is

  pub posted_none : (ps : List Posted) (p : Posted) → term_posted M p ≡ None → once (subterms_posted M (ps ++ p ∷ [])) ≡ once (subterms_posted M ps)
  posted_none ps p none = posted_more ps p ∙ ap (λ o. fold with_subterm (once (subterms_posted M ps)) (subterms_where o)) none

  module _ (p : Posted) (t : Term) (is : term_posted M p ≡ Some t) where
    -- the graph of all subterms so far, and that of one posting more
    pub graph_posted : (old new : Graph) → ((ts : List Term) → IsGraphOf old ts → IsGraphOf new (terms_after ts t)) → (so_far : List Posted) →
        IsGraphOf old (once (subterms_posted M so_far)) → IsGraphOf new (once (subterms_posted M (so_far ++ p ∷ [])))
    graph_posted old new more so_far are = subst (λ ts. IsGraphOf new ts) (sym (posted_some so_far p t is)) (more (once (subterms_posted M so_far)) are)

    -- and the id that the term has there
    pub id_posted : (old : Graph) (id : NodeId) → ((ts : List Term) → IsGraphOf old ts → id.0 ≡ id_among old.cells (terms_after ts t) t) → (so_far : List Posted) (u : Term) →
        IsGraphOf old (once (subterms_posted M so_far)) → term_posted M p ≡ Some u → id.0 ≡ id_among old.cells (once (subterms_posted M (so_far ++ p ∷ []))) u
    id_posted old id own so_far u are other =
        let same : t ≡ u = ap (λ o. unwrap_or o t) (sym is ∙ other) in
        own (once (subterms_posted M so_far)) are ∙ ap (λ ts. id_among old.cells ts t) (sym (posted_some so_far p t is))
        ∙ ap (id_among old.cells (once (subterms_posted M (so_far ++ p ∷ [])))) same

  pub graph_none : (p : Posted) → term_posted M p ≡ None → (graph : Graph) (so_far : List Posted) → IsGraphOf graph (once (subterms_posted M so_far)) → IsGraphOf graph (once (subterms_posted M (so_far ++ p ∷ [])))
  graph_none p none graph so_far are = subst (λ ts. IsGraphOf graph ts) (sym (posted_none so_far p none)) are

  -- what is known stays so, with its id
  stays : (cells : ℕ) (ps : List Posted) (p : Posted) (t : Term) → is_known (once (subterms_posted M ps)) t ≡ true →
      (is_known (once (subterms_posted M (ps ++ p ∷ []))) t ≡ true) × (id_among cells (once (subterms_posted M (ps ++ p ∷ []))) t ≡ id_among cells (once (subterms_posted M ps)) t)
  stays cells ps p t known = by (term_posted M p) refl
    where
      by : (o : Option Term) → term_posted M p ≡ o →
          (is_known (once (subterms_posted M (ps ++ p ∷ []))) t ≡ true) × (id_among cells (once (subterms_posted M (ps ++ p ∷ []))) t ≡ id_among cells (once (subterms_posted M ps)) t)
      by (Some u) is =
          let same = posted_some ps p u is in
          let own = id_stays cells (once (subterms_posted M ps)) t u known in
          (ap (λ ts. is_known ts t) same ∙ own.0, ap (λ ts. id_among cells ts t) same ∙ own.1)
      by None is = let same = posted_none ps p is in (ap (λ ts. is_known ts t) same ∙ known, ap (λ ts. id_among cells ts t) same)

  same_posted : (p q : Posted) → ◌≡◌ {A = Option Posted} (Some p) (Some q) → p ≡ q
  same_posted p q e = ap (λ o. unwrap_or o p) e

  same_id : (i j : NodeId) → ◌≡◌ {A = Option NodeId} (Some i) (Some j) → i ≡ j
  same_id i j e = ap (λ o. unwrap_or o i) e

  -- one posting more, with its id
  pub ids_more : (cells : ℕ) (ps : List Posted) (p : Posted) (ids : List NodeId) (id : NodeId) → ArePostedIds M cells ps ids →
      ((t : Term) → term_posted M p ≡ Some t → id.0 ≡ id_among cells (once (subterms_posted M (ps ++ p ∷ []))) t) → ArePostedIds M cells (ps ++ p ∷ []) (ids ++ id ∷ [])
  ids_more cells ps p ids id are own = record {
    count = (let count = are.count in let more = length_push ids id in let longer = length_push ps p in omega (arith, count, more, longer));
    each = each;
  }
    where
      old : (j : ℕ) (q : Posted) (i : NodeId) → j < length ps → slice_get (ps ++ p ∷ []) j ≡ Some q → slice_get (ids ++ id ∷ []) j ≡ Some i → IsIdOf M cells (once (subterms_posted M (ps ++ p ∷ []))) q i
      old j q i lt at there t is =
          let count = are.count in
          let known = are.each j q i (sym (got_old ps p j lt) ∙ at) (sym (got_old ids id j (omega (arith, lt, count))) ∙ there) t is in
          let kept = stays cells ps p t known.0 in
          (kept.0, known.1 ∙ sym kept.1)

      last : (j : ℕ) (q : Posted) (i : NodeId) → j ≡ length ps → slice_get (ps ++ p ∷ []) j ≡ Some q → slice_get (ids ++ id ∷ []) j ≡ Some i → IsIdOf M cells (once (subterms_posted M (ps ++ p ∷ []))) q i
      last j q i here at there t is =
          let posted : p ≡ q = same_posted p q (sym (ap (slice_get (ps ++ p ∷ [])) here ∙ got_new ps p) ∙ at) in
          let count = are.count in
          let place : j ≡ length ids = omega (arith, here, count) in
          let given : id ≡ i = same_id id i (sym (ap (slice_get (ids ++ id ∷ [])) place ∙ got_new ids id) ∙ there) in
          let term : term_posted M p ≡ Some t = ap (term_posted M) posted ∙ is in (
            ap (λ ts. is_known ts t) (posted_some ps p t term) ∙ known_after (once (subterms_posted M ps)) t,
            ap (λ (k : NodeId). k.0) (sym given) ∙ own t term,
          )

      each : (j : ℕ) (q : Posted) (i : NodeId) → slice_get (ps ++ p ∷ []) j ≡ Some q → slice_get (ids ++ id ∷ []) j ≡ Some i → IsIdOf M cells (once (subterms_posted M (ps ++ p ∷ []))) q i
      each j q i at there = elim (cases_lt j (length ps)) [
        | inl low ↦ old j q i low at there
        | inr high ↦ (let within = slice_get_within (ps ++ p ∷ []) j q at in
            let longer = length_push ps p in last j q i (omega (arith, high, within, longer)) at there)
      ]

  pub ids_none : (cells : ℕ) → ArePostedIds M cells [] []
  ids_none cells = record { count = refl; each = λ j p id at there. absurd (none_at j p at) }
    where
      none_at : (j : ℕ) (p : Posted) → slice_get [] j ≡ Some p → ⊥
      none_at j p at = let lt = slice_get_within [] j p at in omega (arith, lt)
