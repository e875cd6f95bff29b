-- The layers of a plan over lists of numbers are layers of the ids.
use Rattle.std.proofs.Common.{◌≡◌, ℕ, zero, suc, ◌<◌, List, [], ◌∷◌, length, map, get_or, refl, sym, ap, ◌∙◌, subst, Vec, arith, inl, inr}
use Rattle.std.specs.List.{Contains}
use Rattle.std.specs.declared.alloc.Global.{Global}
use Rattle.std.proofs.lemmas.Bool.{cases_lt}
use Rattle.std.proofs.lemmas.List.{length-map}
use Rattle.cbl_base.specs.declared.ids.NodeId.{NodeId}
use Rattle.layer_plan.specs.Dependencies.{AreItems, DependsOn, list_of}
use Rattle.layer_plan.specs.Paths.{IsLongest}
use Rattle.store_build.specs.Lists.{list_in}
use Rattle.store_build.proofs.PlannedLayers.{lowest, rising}
use Rattle.store_turns.specs.Meaning.{Each, ids_of}
use Rattle.model_nodes.specs.Planned.{ArePlanned, HasLayers}
use Rattle.store_build.proofs.GroupLemmas.{in_past}

first_or_none : List (List ℕ) → List ℕ
first_or_none [] = []
first_or_none (x ∷ xs) = x

rest_of : List (List ℕ) → List (List ℕ)
rest_of [] = []
rest_of (x ∷ xs) = xs

-- the number lists are the ids'
same_lists : (deps : List (Vec ℕ Global)) (lists : List (Vec NodeId Global)) → map (λ n. n.items) deps ≡ map (λ l. ids_of l.items) lists → (id : ℕ) → list_of deps id ≡ ids_of (list_in lists id)
unfolding list_of first_or_none rest_of
same_lists [] [] e id = refl
same_lists [] (l ∷ lists) e id = absurd (let c : ◌≡◌ {A = List (List ℕ)} [] (ids_of l.items ∷ map (λ l. ids_of l.items) lists) = e in cc)
same_lists (d ∷ deps) [] e id = absurd (let c : ◌≡◌ {A = List (List ℕ)} (d.items ∷ map (λ n. n.items) deps) [] = e in cc)
same_lists (d ∷ deps) (l ∷ lists) e zero = ap first_or_none e
same_lists (d ∷ deps) (l ∷ lists) e (suc id) = same_lists deps lists (ap rest_of e) id

each_has : (P : ℕ → Type 0) (is : List ℕ) (i : ℕ) → Each P is → Contains is i → P i
each_has P [] i each (k, lt, at) = absurd (omega (arith, lt))
each_has P (j ∷ is) i each (zero, lt, at) = subst P at each.0
each_has P (j ∷ is) i each (suc k, lt, at) = each_has P is i each.1 (k, omega (arith, lt), at)

module _ (deps : List (Vec ℕ Global)) (lists : List (Vec NodeId Global)) (same : map (λ n. n.items) deps ≡ map (λ l. ids_of l.items) lists) where
  pub counts : length deps ≡ length lists
  counts = sym (length-map deps (λ (n : Vec ℕ Global). n.items)) ∙ ap length same ∙ length-map lists (λ (l : Vec NodeId Global). ids_of l.items)

  pub are_items : HasLayers lists → AreItems deps
  unfolding DependsOn
  are_items layers id i depends = elim (cases_lt id (length lists)) [
    | inl low ↦ (let own = each_has (λ j. (j < length lists) × (layers.0 j < layers.0 id)) (ids_of (list_in lists id)) i (layers.1 id low) (subst (λ (is : List ℕ). Contains is i) (same_lists deps lists same id) depends) in
        let lt = own.0 in let count = counts in omega (arith, lt, count))
    | inr high ↦ (let none : list_of deps id ≡ [] = same_lists deps lists same id ∙ ap ids_of (in_past lists id (omega (arith, high))) in
        let c = subst (λ (is : List ℕ). Contains is i) none depends in let lt = c.1 in absurd (omega (arith, lt)))
  ]

  pub planned_all : HasLayers lists → (layers : List ℕ) → length layers ≡ length deps → ((item : ℕ) → item < length deps → IsLongest deps item (get_or layers item 0)) → ArePlanned lists layers
  planned_all has layers count longest = record {
    count = count ∙ counts;
    rising = λ rules first. rising rules first deps lists layers counts (same_lists deps lists same) (are_items has) longest;
    lowest = λ rules first id lt free. lowest rules first deps lists layers counts (same_lists deps lists same) (are_items has) longest id lt free;
  }
