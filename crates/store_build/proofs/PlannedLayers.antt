-- The layers of a plan are such as a store is built with.
use Rattle.std.proofs.Common.{◌≡◌, ℕ, zero, suc, ◌<◌, ◌≤◌, true, nat_lt, List, [], ◌∷◌, length, get_or, refl, sym, ◌∙◌, subst, arith, Vec}
use Rattle.std.specs.List.{Contains}
use Rattle.std.specs.declared.alloc.Global.{Global}
use Rattle.cbl_base.specs.NodeLaw.{Rule}
use Rattle.cbl_base.specs.declared.ids.NodeId.{NodeId}
use Rattle.layer_plan.specs.Dependencies.{list_of, DependsOn}
use Rattle.layer_plan.specs.Paths.{HasPath, IsLongest}
use Rattle.store_turns.specs.Meaning.{AreLayers, Each, ids_of}
use Rattle.store_build.specs.Lists.{list_in}
use Rattle.store_build.specs.Aims.{graph_over, layer_at}
use Rattle.store_build.proofs.LaidLemmas.{nothing_in}

each_contained : (P : ℕ → Type 0) (is : List ℕ) → ((i : ℕ) → Contains is i → P i) → Each P is
each_contained P [] h = tt
each_contained P (i ∷ is) h = (h i (0, omega arith, refl), each_contained P is (λ j c. h j (suc c.0, omega (arith, c.1), c.2)))

module _ (rules : List Rule) (first : ℕ) (deps : List (Vec ℕ Global)) (inputs : List (Vec NodeId Global)) (layers : List ℕ)
    (count : length deps ≡ length inputs) (same : (id : ℕ) → list_of deps id ≡ ids_of (list_in inputs id)) (items : (id i : ℕ) → DependsOn deps id i → i < length deps)
    (longest : (id : ℕ) → id < length deps → IsLongest deps id (get_or layers id 0)) where
  depends : (id i : ℕ) → Contains (ids_of (list_in inputs id)) i → DependsOn deps id i
  unfolding DependsOn
  depends id i c = subst (λ (is : List ℕ). Contains is i) (sym (same id)) c

  pub rising : AreLayers (graph_over rules first inputs) (layer_at layers)
  rising id lt = each_contained (λ i. (i < length inputs) × (layer_at layers i < layer_at layers id)) (ids_of (list_in inputs id)) (λ i c.
      let d = depends id i c in
      let low : i < length deps = items id i d in
      let next : suc (get_or layers i 0) ≤ get_or layers id 0 = (longest id (omega (arith, lt, count))).1 (suc (get_or layers i 0)) (i, d, (longest i low).0) in
      (omega (arith, low, count), omega (arith, next)))

  alone : (id n : ℕ) → list_of deps id ≡ [] → HasPath deps id n → n ≡ 0
  unfolding DependsOn
  alone id zero e p = refl
  alone id (suc n) e p = (let c = subst (λ (is : List ℕ). Contains is p.0) e p.1 in let lt = c.1 in absurd (omega (arith, lt)))

  pub lowest : (id : ℕ) → id < length inputs → (graph_over rules first inputs).is_free id ≡ true → layer_at layers id ≡ 0
  lowest id lt e = alone id (get_or layers id 0) (same id ∙ nothing_in (ids_of (list_in inputs id)) (nat_lt id first) e) (longest id (omega (arith, lt, count))).0
