-- One more use is told.
use Rattle.std.proofs.Common.{◌≡◌, ◌≢◌, ℕ, List, [], ◌∷◌, ◌++◌, map, Some, None, refl, sym, ap, ◌∙◌, subst, inl, inr}
use Rattle.std.proofs.lemmas.Bool.Decides.{eqb_tells}
use Rattle.std.proofs.lemmas.List.{map-append}
use Rattle.cbl_base.specs.declared.ids.NodeId.{NodeId}
use Rattle.cbl_base.specs.declared.input.Change.{Change}
use Rattle.store_turns.specs.Waits.{Wait, and_change, SameElsewhere}
use Rattle.store_turns.specs.Telling.{places_in, pushed, blocked}

pushed-append : (cs ds : List Change) (w : Wait) → pushed (cs ++ ds) w ≡ pushed ds (pushed cs w)
pushed-append [] ds w = refl
pushed-append (c ∷ cs) ds w = pushed-append cs ds (Some (and_change c w))

blocked-append : (ps qs : List ℕ) (w : Wait) → blocked (ps ++ qs) w ≡ blocked qs (blocked ps w)
blocked-append [] qs w = refl
blocked-append (p ∷ ps) [] w = refl
blocked-append (p ∷ ps) (q ∷ qs) w = refl

places-append : (j : ℕ) (us vs : List (NodeId × ℕ)) → places_in j (us ++ vs) ≡ places_in j us ++ places_in j vs
places-append j [] vs = refl
places-append j (u ∷ us) vs =
    elim (eqb_tells u.0.0 j) [
      | inl t ↦ rw t.0 (ap (λ l. u.1 ∷ l) (places-append j us vs))
      | inr f ↦ rw f.0 (places-append j us vs)
    ]

module _ (layer : ℕ → ℕ) (us : List (NodeId × ℕ)) (u : NodeId × ℕ) (old now new : ℕ → ℕ → Wait) (same : SameElsewhere new now (layer u.0.0) u.0.0) where
  pub told_elsewhere : ((l j : ℕ) → l ≢ layer j → now l j ≡ old l j) → (l j : ℕ) → l ≢ layer j → new l j ≡ old l j
  told_elsewhere h l j ne = same l j (λ e f. ne (e ∙ ap layer (sym f))) ∙ h l j ne

  pub pushed_more : (f : ℕ → Change) → new (layer u.0.0) u.0.0 ≡ Some (and_change (f u.1) (now (layer u.0.0) u.0.0))
      → ((j : ℕ) → now (layer j) j ≡ pushed (map f (places_in j us)) (old (layer j) j))
      → (j : ℕ) → new (layer j) j ≡ pushed (map f (places_in j (us ++ u ∷ []))) (old (layer j) j)
  pushed_more f here h j =
      let parts : pushed (map f (places_in j (us ++ u ∷ []))) (old (layer j) j) ≡ pushed (map f (places_in j (u ∷ []))) (now (layer j) j) =
      ap (λ ps. pushed (map f ps) (old (layer j) j)) (places-append j us (u ∷ [])) ∙ ap (λ cs. pushed cs (old (layer j) j)) (map-append f (places_in j us) (places_in j (u ∷ [])))
      ∙ pushed-append (map f (places_in j us)) (map f (places_in j (u ∷ []))) (old (layer j) j) ∙ ap (pushed (map f (places_in j (u ∷ [])))) (sym (h j)) in
      elim (eqb_tells u.0.0 j) [
        | inl t ↦ subst (λ k. new (layer k) k ≡ Some (and_change (f u.1) (now (layer k) k))) t.1 here ∙ sym (parts ∙ (rw t.0 refl))
        | inr g ↦ same (layer j) j (λ _ e. g.1 (sym e)) ∙ sym (parts ∙ (rw g.0 refl))
      ]

  pub blocked_more : new (layer u.0.0) u.0.0 ≡ Some None
      → ((j : ℕ) → now (layer j) j ≡ blocked (places_in j us) (old (layer j) j))
      → (j : ℕ) → new (layer j) j ≡ blocked (places_in j (us ++ u ∷ [])) (old (layer j) j)
  blocked_more here h j =
      let parts : blocked (places_in j (us ++ u ∷ [])) (old (layer j) j) ≡ blocked (places_in j (u ∷ [])) (now (layer j) j) =
      ap (λ ps. blocked ps (old (layer j) j)) (places-append j us (u ∷ [])) ∙ blocked-append (places_in j us) (places_in j (u ∷ [])) (old (layer j) j) ∙ ap (blocked (places_in j (u ∷ []))) (sym (h j)) in
      elim (eqb_tells u.0.0 j) [
        | inl t ↦ subst (λ k. new (layer k) k ≡ Some None) t.1 here ∙ sym (parts ∙ (rw t.0 refl))
        | inr g ↦ same (layer j) j (λ _ e. g.1 (sym e)) ∙ sym (parts ∙ (rw g.0 refl))
      ]
