-- Lists of items each of which depends on the next: those that a search lists are all there are, in the order of lists.
use Rattle.std.proofs.Common.{◌≡◌, refl, sym, subst, ap, ◌∙◌, Vec, ℕ, zero, suc, true, ◌⊎◌, inl, inr, List, [], ◌∷◌, map, length, arith}
use Rattle.std.specs.declared.alloc.Global.{Global}
use Rattle.layer_plan.specs.Dependencies.{list_of, DependsOn, AreItems}
use Rattle.layer_plan.specs.Cycles.{Leads}
use Rattle.model_view.specs.Naming.{depends, nexts, last_behind, all_ways, ways_from}
use Rattle.model_view.proofs.Members.{In, in_left, in_right, in_either, in_map, in_map_back, in_filter, in_filter_back, in_range, in_of, of_in, any_in, in_any}

-- dependencies, as tests

pub depends_on : (deps : List (Vec ℕ Global)) (v w : ℕ) → depends deps v w ≡ true → DependsOn deps v w
unfolding DependsOn
depends_on deps v w h = of_in (list_of deps v) w (any_in w (list_of deps v) h)

pub on_depends : (deps : List (Vec ℕ Global)) (v w : ℕ) → DependsOn deps v w → depends deps v w ≡ true
unfolding DependsOn
on_depends deps v w h = in_any w (list_of deps v) (in_of (list_of deps v) w h)

pub next_of : (deps : List (Vec ℕ Global)) (v w : ℕ) → In w (nexts deps v) → DependsOn deps v w
next_of deps v w h = depends_on deps v w (in_filter_back (depends deps v) _ w h).1

pub of_next : (deps : List (Vec ℕ Global)) (v w : ℕ) → AreItems deps → DependsOn deps v w → In w (nexts deps v)
of_next deps v w items h = in_filter (depends deps v) _ w (in_range 0 (length deps) w (omega arith) (let lt = items v w h in omega arith)) (on_depends deps v w h)

-- chains: each item of a list depends on the next

abbrev pub IsChain : List (Vec ℕ Global) → ℕ → List ℕ → Type 0
IsChain deps v [] = Unit {0}
IsChain deps v (w ∷ ws) = DependsOn deps v w × IsChain deps w ws

pub leads_of : (deps : List (Vec ℕ Global)) (v : ℕ) (ws : List ℕ) (end : ℕ) → IsChain deps v ws → DependsOn deps (last_behind v ws) end → Leads deps (v ∷ ws) end
leads_of deps v [] end c d = (d, tt)
leads_of deps v (w ∷ ws) end c d = (c.0, leads_of deps w ws end c.1 d)

pub of_leads : (deps : List (Vec ℕ Global)) (v : ℕ) (ws : List ℕ) (end : ℕ) → Leads deps (v ∷ ws) end → IsChain deps v ws × DependsOn deps (last_behind v ws) end
of_leads deps v [] end h = (tt, h.0)
of_leads deps v (w ∷ ws) end h = let r = of_leads deps w ws end h.1 in ((h.0, r.0), r.1)

-- each list that is found is a chain of so many items, and each such chain is found

pub record IsWay (deps : List (Vec ℕ Global)) (n v : ℕ) (way : List ℕ) : Type 0 where
  pub later : List ℕ
  pub is : way ≡ v ∷ later
  pub count : length later ≡ n
  pub chain : IsChain deps v later

pub in_ways : (ways : List (List (List ℕ))) (way : List ℕ) → In way (all_ways ways) → (some : List (List ℕ)) × In some ways × In way some
in_ways [] way h = absurd h
in_ways (ways ∷ rest) way h = by_side (in_either ways (all_ways rest) way h) (λ k. in_ways rest way k) where
  by_side : In way ways ⊎ In way (all_ways rest) → (In way (all_ways rest) → (some : List (List ℕ)) × In some rest × In way some) → (some : List (List ℕ)) × In some (ways ∷ rest) × In way some
  by_side (inl k) on = (ways, inl refl, k)
  by_side (inr k) on = let r = on k in (r.0, inr r.1, r.2)

of_ways : (ways : List (List (List ℕ))) (some : List (List ℕ)) (way : List ℕ) → In some ways → In way some → In way (all_ways ways)
of_ways [] some way h k = absurd h
of_ways (ways ∷ rest) some way (inl e) k = in_left ways (all_ways rest) way (subst (λ w. In way w) (sym e) k)
of_ways (ways ∷ rest) some way (inr h) k = in_right ways (all_ways rest) way (of_ways rest some way h k)

pub way_of : (deps : List (Vec ℕ Global)) (n v : ℕ) (way : List ℕ) → In way (ways_from deps n v) → IsWay deps n v way
way_of deps zero v way (inl e) = record { later = []; is = sym e; count = refl; chain = tt }
way_of deps zero v way (inr h) = absurd h
way_of deps (suc n) v way h = longer (in_map_back (λ w. v ∷ w) _ way h) (λ w some k. way_of deps n w some k) where
  on_from : (rest : List ℕ) → v ∷ rest ≡ way → (some : List (List ℕ)) × In some (map (ways_from deps n) (nexts deps v)) × In rest some → ((w : ℕ) (some : List ℕ) → In some (ways_from deps n w) → IsWay deps n w some) → IsWay deps (suc n) v way
  on_from rest e r on =
      let next = in_map_back (ways_from deps n) (nexts deps v) r.0 r.1 in
      let found = on next.0 rest (subst (λ w. In rest w) (sym next.2) r.2) in
      record { later = rest; is = sym e; count = ap length found.is ∙ ap suc found.count; chain = subst (λ u. IsChain deps v u) (sym found.is) (next_of deps v next.0 next.1, found.chain) }

  longer : (rest : List ℕ) × In rest (all_ways (map (ways_from deps n) (nexts deps v))) × (v ∷ rest ≡ way) → ((w : ℕ) (some : List ℕ) → In some (ways_from deps n w) → IsWay deps n w some) → IsWay deps (suc n) v way
  longer r on = on_from r.0 r.2 (in_ways _ r.0 r.1) on

pub of_way : (deps : List (Vec ℕ Global)) (v : ℕ) (ws : List ℕ) → AreItems deps → IsChain deps v ws → In (v ∷ ws) (ways_from deps (length ws) v)
of_way deps v [] items c = inl refl
of_way deps v (w ∷ ws) items c =
    in_map (λ u. v ∷ u) _ (w ∷ ws) (of_ways _ (ways_from deps (length ws) w) (w ∷ ws) (in_map (ways_from deps (length ws)) (nexts deps v) w (of_next deps v w items c.0)) (of_way deps w ws items c.1))
