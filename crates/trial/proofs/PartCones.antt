-- What a cone has is closed under inputs, and its target is there; and the cone of a target that is kept.
use Rattle.std.proofs.Common.{◌≡◌, inl, inr, ℕ, ◌<◌, true, cond, List, [], ◌∷◌, All, Option, Some, refl, sym, ap, ◌∙◌, subst}
use Rattle.std.specs.Prelude.{unwrap_or}
use Rattle.std.proofs.lemmas.Bool.Decides.{eqb_tells}
use Rattle.std.proofs.lemmas.List.Elements.{All-head, All-tail}
use Rattle.store_turns.specs.declared.frame.Cone.{Cone}
use Rattle.store_turns.specs.Cones.{Among, StandsOn, itself, below, has, IsCone, cone_in}
use Rattle.store_turns.specs.Meaning.{Each}

stands_more : (inputs : ℕ → List ℕ) {j k : ℕ} → StandsOn inputs j k → (i : ℕ) → Among i (inputs k) → StandsOn inputs j i
stands_more inputs (itself {j}) i m = below m itself
stands_more inputs (below {j} {i} {k} n st) h m = below n (stands_more inputs st h m)

each_of : (P : ℕ → Type 0) (is : List ℕ) → ((i : ℕ) → Among i is → P i) → Each P is
each_of P [] h = tt
each_of P (i ∷ is) h = (h i (inl refl), each_of P is (λ k m. h k (inr m)))

module _ (inputs : ℕ → List ℕ) (count : ℕ) (cone : Cone) (is : IsCone inputs count cone) where
  pub target_is : has cone.members.items cone.target ≡ true
  target_is = is.all cone.target itself

  pub closed_is : (id : ℕ) → id < count → has cone.members.items id ≡ true → Each (λ i. has cone.members.items i ≡ true) (inputs id)
  closed_is id lt h = each_of (λ i. has cone.members.items i ≡ true) (inputs id) (λ i m. is.all i (stands_more inputs (is.stands id lt h) i m))

-- a cone that is found among some is one of them, and the target's
pub found_is : (P : Cone → Type 0) (target : ℕ) (cs : List Cone) (c : Cone) → All P cs → cone_in cs target ≡ Some c → P c × (c.target ≡ target)
found_is P target [] c all e = absurd (cc)
found_is P target (d ∷ ds) c all e = elim (eqb_tells d.target target) [
  | inl t ↦
      let whole : Some d ≡ Some c = sym (ap (λ b. cond b (Some d) (cone_in ds target)) t.0) ∙ e in
      let same : d ≡ c = ap (λ (o : Option Cone). unwrap_or o d) whole in
      subst (λ (k : Cone). P k × (k.target ≡ target)) same (All-head P d ds all, t.1)
  | inr f ↦ found_is P target ds c (All-tail P d ds all) (sym (ap (λ b. cond b (Some d) (cone_in ds target)) f.0) ∙ e)
]
