-- What was told reached those that use the id, and is paid by what it newly touches.
use Rattle.std.proofs.Common.{◌≡◌, ◌≢◌, ℕ, true, false, List, [], length, map, None, refl, sym, ap, ◌∙◌, subst, ◌⊎◌, inl, inr}
use Rattle.std.proofs.lemmas.Bool.Decides.{eqb_tells}
use Rattle.std.proofs.lemmas.List.{length-map}
use Rattle.cbl_base.specs.declared.ids.NodeId.{NodeId}
use Rattle.cbl_base.specs.declared.input.Input.{Input}
use Rattle.store_turns.specs.declared.outcome.Outcome.{Outcome}
use Rattle.store_turns.specs.declared.outcome.Outcome.TheVariants.{Value, Fails, Missing}
use Rattle.store_turns.specs.Meaning.{Graph}
use Rattle.store_turns.specs.Waits.{Wait}
use Rattle.store_turns.specs.Telling.{positions, places_in, change_to, pushed, blocked, IsLost, IsTold}
use Rattle.store_turns.specs.Turns.{Reached}
use Rattle.store_turns.specs.Touch.{differs}
use Rattle.store_turns.proofs.Budget.{Tells}
use Rattle.store_turns.proofs.Differs.{no_difference, difference}
use Rattle.store_turns.proofs.Reaching.{by_value, by_loss, by_none}

pub lost_differs : (o : Outcome) (x : Input) → IsLost o → differs o x ≡ true
lost_differs (Value y) x lost = absurd (lost y refl)
lost_differs (Fails f) x lost = refl
lost_differs Missing x lost = refl

module _ (g : Graph) (layer : ℕ → ℕ) (id : ℕ) (uses : List (NodeId × ℕ)) (are : (j : ℕ) → places_in j uses ≡ positions id (g.inputs j))
    (o p : ℕ → Outcome) (old : Input) (was : o id ≡ Value old) (others : (j : ℕ) → j ≢ id → p j ≡ o j) (u v : ℕ → ℕ → Wait) (told : IsTold layer uses old (p id) u v) where
  pub told_reached : (held : ℕ → List Input) → Reached g layer id o p held u v
  told_reached held = elim told [
    | inl same ↦ by_none g layer id o p held u v (λ k j _. same.1 k j)
        (λ i. elim (eqb_tells i id) [ inl t ↦ subst (λ j. p j ≡ o j) (sym t.1) (same.0 ∙ sym was) | inr d ↦ others i d.1 ])
        (λ j. same.1 (layer j) j)
    | inr (inl new) ↦ by_value g layer id o p held u v new.5 old new.0 new.3 was new.1 others
        (λ j. new.4 j ∙ ap (λ ps. pushed (map (λ q. change_to q old new.0) ps) (u (layer j) j)) (are j))
    | inr (inr lost) ↦ by_loss g layer id o p held u v lost.2 old was lost.0 others
        (λ j. lost.1 j ∙ ap (λ ps. blocked ps (u (layer j) j)) (are j))
  ]

  -- and each learned of it
  pub told_tells : (w : ℕ → Wait) → ((j : ℕ) → j ≢ id → u (layer j) j ≡ w j)
      → ((differs (p id) old ≡ false) × ((j : ℕ) → j ≢ id → v (layer j) j ≡ w j))
      ⊎ ((differs (p id) old ≡ true) × ((j : ℕ) → j ≢ id → Tells (positions id (g.inputs j)) (w j) (v (layer j) j)))
  unfolding Tells
  told_tells w rest = elim told [
    | inl same ↦ inl (ap (λ q. differs q old) same.0 ∙ no_difference old old refl, λ j ne. same.1 (layer j) j ∙ rest j ne)
    | inr (inl new) ↦ inr (
      ap (λ q. differs q old) new.1 ∙ difference new.0 old (λ e. new.2 (sym e)),
      λ j ne. inl (
        map (λ q. change_to q old new.0) (places_in j uses),
        new.4 j ∙ ap (pushed (map (λ q. change_to q old new.0) (places_in j uses))) (rest j ne),
        length-map (places_in j uses) (λ q. change_to q old new.0) ∙ ap length (are j),
      ),
    )
    | inr (inr lost) ↦ inr (
      lost_differs (p id) old lost.0,
      λ j ne. inr (lost.1 j ∙ ap (λ ps. blocked ps (u (layer j) j)) (are j) ∙ ap (blocked (positions id (g.inputs j))) (rest j ne)),
    )
  ]

  -- who waited for nothing and doesn't use it still waits for nothing
  pub told_leaves : positions id (g.inputs id) ≡ [] → u (layer id) id ≡ None → v (layer id) id ≡ None
  told_leaves own none = elim told [
    | inl same ↦ same.1 (layer id) id ∙ none
    | inr (inl new) ↦ new.4 id ∙ ap (λ ps. pushed (map (λ q. change_to q old new.0) ps) (u (layer id) id)) (are id ∙ own) ∙ none
    | inr (inr lost) ↦ lost.1 id ∙ ap (λ ps. blocked ps (u (layer id) id)) (are id ∙ own) ∙ none
  ]
