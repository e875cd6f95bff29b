-- What the search finds is the named cycle, and there is no other.
use Rattle.std.proofs.Common.{◌≡◌, refl, sym, subst, ap, ◌∙◌, Vec, ℕ, zero, suc, ◌+◌, ◌<◌, ◌≤◌, Bool, true, false, ◌⊎◌, inl, inr, List, [], ◌∷◌, length, nat_eq, Option, Some, None, rules, arith}
use Rattle.std.specs.List.{Contains, find, range_with_len}
use Rattle.std.specs.declared.alloc.Global.{Global}
use Rattle.std.proofs.lemmas.Option.{none-some}
use Rattle.layer_plan.specs.Dependencies.{list_of, DependsOn, AreItems}
use Rattle.layer_plan.specs.Cycles.{first_or, Leads, IsCycle}
use Rattle.layer_plan.specs.NamedCycle.{IsNoLater, IsNamedCycle}
use Rattle.model_view.specs.Naming.{is_cycle, ways_from, or_else, cycle_from, cycle_of_one, named_cycle}
use Rattle.model_view.proofs.Members.{In, in_range, in_of, of_in}
use Rattle.model_view.proofs.Chains.{way_of, of_way}
use Rattle.model_view.proofs.Orders.{IsUpward, upward_range, sorted_ways, found_in, found_none, found_first}
use Rattle.model_view.proofs.Turning.{cycle_of, of_cycle, begun, no_more}

-- the cycles of an item, of more than so many items

record IsShortest (deps : List (Vec ℕ Global)) (v n : ℕ) (list : List ℕ) : Type 0 where
  later : List ℕ
  is : list ≡ v ∷ later
  cycle : IsCycle deps (v ∷ later)
  shortest : (others : List ℕ) → IsCycle deps (v ∷ others) → n ≤ length others → length later ≤ length others
  earliest : (others : List ℕ) → IsCycle deps (v ∷ others) → length others ≡ length later → IsNoLater (v ∷ later) (v ∷ others)

shortest_here : (deps : List (Vec ℕ Global)) (v n : ℕ) (list : List ℕ) → AreItems deps → find (is_cycle deps) (ways_from deps n v) ≡ Some list → IsShortest deps v n list
shortest_here deps v n list items e =
    let found = found_in (is_cycle deps) (ways_from deps n v) list e in
    let way = way_of deps n v list found.0 in
    let tested : is_cycle deps (v ∷ way.later) ≡ true = subst (λ l. is_cycle deps l ≡ true) way.is found.1 in
    record {
      later = way.later;
      is = way.is;
      cycle = cycle_of deps v way.later way.chain tested;
      shortest = λ others c h. (let count = way.count in omega arith);
      earliest = λ others c h. (
          let k = of_cycle deps v others c in
          let all : length others ≡ n = h ∙ way.count in
          let at : In (v ∷ others) (ways_from deps n v) = subst (λ m. In (v ∷ others) (ways_from deps m v)) all (of_way deps v others items k.0) in
          let first : IsNoLater list (v ∷ others) = found_first (is_cycle deps) (ways_from deps n v) list (v ∷ others) (sorted_ways deps n v) e at k.1 in
          subst (λ l. IsNoLater l (v ∷ others)) way.is first);
    }

none_here : (deps : List (Vec ℕ Global)) (v n : ℕ) (others : List ℕ) → AreItems deps → find (is_cycle deps) (ways_from deps n v) ≡ None → IsCycle deps (v ∷ others) → length others ≡ n → ⊥
none_here deps v n others items e c h =
    let k = of_cycle deps v others c in
    let at : In (v ∷ others) (ways_from deps n v) = subst (λ m. In (v ∷ others) (ways_from deps m v)) h (of_way deps v others items k.0) in
    found_none (is_cycle deps) (ways_from deps n v) (v ∷ others) e at k.1

longer_too : (deps : List (Vec ℕ Global)) (v n : ℕ) (list : List ℕ) → ((others : List ℕ) → IsCycle deps (v ∷ others) → length others ≡ n → ⊥) → IsShortest deps v (suc n) list → IsShortest deps v n list
longer_too deps v n list none s = record { later = s.later; is = s.is; cycle = s.cycle; shortest = λ others c h. by_test others c h (nat_eq (length others) n) refl; earliest = s.earliest } where
  by_test : (others : List ℕ) → IsCycle deps (v ∷ others) → n ≤ length others → (b : Bool) → nat_eq (length others) n ≡ b → length s.later ≤ length others
  by_test others c h true e = absurd (none others c (search rules))
  by_test others c h false e = (let apart : ¬ (length others ≡ n) = search rules in s.shortest others c (omega arith))

cycle_found : (deps : List (Vec ℕ Global)) (v more n : ℕ) (list : List ℕ) → AreItems deps → cycle_from deps v more n ≡ Some list → IsShortest deps v n list
cycle_found deps v zero n list items e = absurd (none-some list e)
cycle_found deps v (suc more) n list items e =
    by_found (find (is_cycle deps) (ways_from deps n v)) refl e (λ k. cycle_found deps v more (suc n) list items k) where
      by_found : (r : Option (List ℕ)) → find (is_cycle deps) (ways_from deps n v) ≡ r → or_else r (λ _. cycle_from deps v more (suc n)) ≡ Some list → (cycle_from deps v more (suc n) ≡ Some list → IsShortest deps v (suc n) list) → IsShortest deps v n list
      by_found (Some way) h k on = shortest_here deps v n list items (h ∙ k)
      by_found None h k on = longer_too deps v n list (λ others c q. none_here deps v n others items h c q) (on k)

none_found : (deps : List (Vec ℕ Global)) (v more n : ℕ) (others : List ℕ) → AreItems deps → cycle_from deps v more n ≡ None → IsCycle deps (v ∷ others) → n ≤ length others → length others < n + more → ⊥
none_found deps v zero n others items e c low up = omega arith
none_found deps v (suc more) n others items e c low up =
    by_found (find (is_cycle deps) (ways_from deps n v)) refl e (λ k more_low. none_found deps v more (suc n) others items k c more_low (omega arith)) where
      by_test : (b : Bool) → nat_eq (length others) n ≡ b → find (is_cycle deps) (ways_from deps n v) ≡ None → (suc n ≤ length others → ⊥) → ⊥
      by_test true q h on = none_here deps v n others items h c (search rules)
      by_test false q h on = (let apart : ¬ (length others ≡ n) = search rules in on (omega arith))

      by_found : (r : Option (List ℕ)) → find (is_cycle deps) (ways_from deps n v) ≡ r → or_else r (λ _. cycle_from deps v more (suc n)) ≡ None → (cycle_from deps v more (suc n) ≡ None → suc n ≤ length others → ⊥) → ⊥
      by_found (Some way) h k on = absurd (none-some way (sym k))
      by_found None h k on = by_test (nat_eq (length others) n) refl h (on k)

-- the first item that has one

record IsFirst (deps : List (Vec ℕ Global)) (vs : List ℕ) (list : List ℕ) : Type 0 where
  item : ℕ
  among : In item vs
  found : cycle_from deps item (length deps) 0 ≡ Some list
  before : (u : ℕ) → In u vs → u < item → cycle_from deps u (length deps) 0 ≡ None

first_of_all : (deps : List (Vec ℕ Global)) (vs : List ℕ) (list : List ℕ) → IsUpward vs → cycle_of_one deps vs ≡ Some list → IsFirst deps vs list
first_of_all deps [] list up e = absurd (none-some list e)
first_of_all deps (v ∷ vs) list up e = by_found (cycle_from deps v (length deps) 0) refl e (λ k. first_of_all deps vs list up.1 k) where
  earlier : (s : IsFirst deps vs list) → cycle_from deps v (length deps) 0 ≡ None → (u : ℕ) → (v ≡ u) ⊎ In u vs → u < s.item → cycle_from deps u (length deps) 0 ≡ None
  earlier s h u (inl q) lt = subst (λ w. cycle_from deps w (length deps) 0 ≡ None) q h
  earlier s h u (inr q) lt = s.before u q lt

  none_before : (u : ℕ) → (v ≡ u) ⊎ In u vs → u < v → cycle_from deps u (length deps) 0 ≡ None
  none_before u (inl q) lt = absurd (omega (arith, q))
  none_before u (inr q) lt = (let above = up.0 u q in absurd (omega arith))

  by_found : (r : Option (List ℕ)) → cycle_from deps v (length deps) 0 ≡ r → or_else r (λ _. cycle_of_one deps vs) ≡ Some list → (cycle_of_one deps vs ≡ Some list → IsFirst deps vs list) → IsFirst deps (v ∷ vs) list
  by_found (Some way) h k on = record { item = v; among = inl refl; found = h ∙ k; before = none_before }
  by_found None h k on = (let s = on k in record { item = s.item; among = inr s.among; found = s.found; before = earlier s h })

none_of_all : (deps : List (Vec ℕ Global)) (vs : List ℕ) (u : ℕ) → cycle_of_one deps vs ≡ None → In u vs → cycle_from deps u (length deps) 0 ≡ None
none_of_all deps [] u e at = absurd at
none_of_all deps (v ∷ vs) u e at = by_found (cycle_from deps v (length deps) 0) refl e at (λ k q. none_of_all deps vs u k q) where
  by_found : (r : Option (List ℕ)) → cycle_from deps v (length deps) 0 ≡ r → or_else r (λ _. cycle_of_one deps vs) ≡ None → (v ≡ u) ⊎ In u vs → (cycle_of_one deps vs ≡ None → In u vs → cycle_from deps u (length deps) 0 ≡ None) → cycle_from deps u (length deps) 0 ≡ None
  by_found (Some way) h k q on = absurd (none-some way (sym k))
  by_found None h k (inl q) on = subst (λ w. cycle_from deps w (length deps) 0 ≡ None) q h
  by_found None h k (inr q) on = on k q

-- items of cycles

depends_in : (deps : List (Vec ℕ Global)) (item k : ℕ) → k < length (list_of deps item) → item < length deps
unfolding list_of
depends_in [] item k h = absurd (omega arith)
depends_in (x ∷ xs) zero k h = omega arith
depends_in (x ∷ xs) (suc item) k h = let i = depends_in xs item k h in omega arith

item_of : (deps : List (Vec ℕ Global)) (item next : ℕ) → DependsOn deps item next → item < length deps
unfolding DependsOn
item_of deps item next h = depends_in deps item h.0 h.1

items_of_leads : (deps : List (Vec ℕ Global)) (xs : List ℕ) (end x : ℕ) → Leads deps xs end → In x xs → x < length deps
items_of_leads deps [] end x h at = absurd at
items_of_leads deps (y ∷ ys) end x h (inl e) = subst (λ z. z < length deps) e (item_of deps y _ h.0)
items_of_leads deps (y ∷ ys) end x h (inr at) = items_of_leads deps ys end x h.1 at

items_of_cycle : (deps : List (Vec ℕ Global)) (v : ℕ) (vs : List ℕ) (x : ℕ) → IsCycle deps (v ∷ vs) → In x (v ∷ vs) → x < length deps
items_of_cycle deps v vs x c at = items_of_leads deps (v ∷ vs) v x c.1 at

not_longer : (deps : List (Vec ℕ Global)) (v : ℕ) (vs : List ℕ) → IsCycle deps (v ∷ vs) → length vs < 0 + length deps
not_longer deps v vs c =
    let few = no_more (length deps) (v ∷ vs) c.0 (λ x at. items_of_cycle deps v vs x c at) in omega arith

in_all : (deps : List (Vec ℕ Global)) (x : ℕ) → x < length deps → In x (range_with_len 0 (length deps))
in_all deps x lt = in_range 0 (length deps) x (omega arith) (omega arith)

-- what is found is the named cycle

is_named : (deps : List (Vec ℕ Global)) (list : List ℕ) → AreItems deps → (s : IsFirst deps (range_with_len 0 (length deps)) list) → IsShortest deps s.item 0 list → IsNamedCycle deps list
is_named deps list items s t = subst (λ l. IsNamedCycle deps l) (sym t.is) (record {
  cycle = t.cycle;
  least = λ other item c at. least_one other item c (in_of other item at);
  shortest = λ other c e. short other c e;
  earliest = λ other c e q. early other c e q;
}) where
  least_one : (other : List ℕ) (item : ℕ) → IsCycle deps other → In item other → s.item ≤ item
  least_one [] item c at = absurd at
  least_one (x ∷ xs) item c at =
      let r = begun deps (x ∷ xs) item c at in
      by_order r.0 r.1 where
        by_order : (rest : List ℕ) → IsCycle deps (item ∷ rest) → s.item ≤ item
        by_order rest d = one (λ lt. none_found deps item (length deps) 0 rest items (s.before item (in_all deps item (items_of_cycle deps item rest item d (inl refl))) lt) d (omega arith) (not_longer deps item rest d)) where
          one : (item < s.item → ⊥) → s.item ≤ item
          one h = omega (arith, not_below h) where
            not_below : (item < s.item → ⊥) → ¬ (item < s.item)
            not_below k = k

  short : (other : List ℕ) → IsCycle deps other → first_or other 0 ≡ s.item → suc (length t.later) ≤ length other
  short [] c e = absurd c
  short (x ∷ xs) c e = let few = t.shortest xs (subst (λ y. IsCycle deps (y ∷ xs)) e c) (omega arith) in omega arith

  early : (other : List ℕ) → IsCycle deps other → first_or other 0 ≡ s.item → length other ≡ suc (length t.later) → IsNoLater (s.item ∷ t.later) other
  early [] c e q = absurd c
  early (x ∷ xs) c e q = subst (λ y. IsNoLater (s.item ∷ t.later) (y ∷ xs)) (sym e) (t.earliest xs (subst (λ y. IsCycle deps (y ∷ xs)) e c) (omega (arith, q)))

pub named_found : (deps : List (Vec ℕ Global)) (list : List ℕ) → AreItems deps → named_cycle deps ≡ Some list → IsNamedCycle deps list
unfolding named_cycle
named_found deps list items e =
    let s = first_of_all deps (range_with_len 0 (length deps)) list (upward_range 0 (length deps)) e in
    is_named deps list items s (cycle_found deps s.item (length deps) 0 list items s.found)

pub named_none : (deps : List (Vec ℕ Global)) (list : List ℕ) → AreItems deps → named_cycle deps ≡ None → IsCycle deps list → ⊥
unfolding named_cycle
named_none deps [] items e c = c
named_none deps (v ∷ vs) items e c =
    none_found deps v (length deps) 0 vs items (none_of_all deps (range_with_len 0 (length deps)) v e (in_all deps v (items_of_cycle deps v vs v c (inl refl)))) c (omega arith) (not_longer deps v vs c)

-- there is one named cycle at most

same_list : (xs ys : List ℕ) → length xs ≡ length ys → IsNoLater xs ys → IsNoLater ys xs → xs ≡ ys
same_list [] [] e h k = refl
same_list [] (y ∷ ys) e h k = absurd k
same_list (x ∷ xs) [] e h k = absurd h
same_list (x ∷ xs) (y ∷ ys) e (inl h) (inl k) = absurd (omega arith)
same_list (x ∷ xs) (y ∷ ys) e (inl h) (inr k) = (let q = k.0 in absurd (omega arith))
same_list (x ∷ xs) (y ∷ ys) e (inr h) (inl k) = (let q = h.0 in absurd (omega arith))
same_list (x ∷ xs) (y ∷ ys) e (inr h) (inr k) = ap (λ z. z ∷ xs) h.0 ∙ ap (λ zs. y ∷ zs) (same_list xs ys (omega (arith, e)) h.1 k.1)

first_in : (deps : List (Vec ℕ Global)) (list : List ℕ) → IsCycle deps list → Contains list (first_or list 0)
first_in deps [] c = absurd c
first_in deps (x ∷ xs) c = of_in (x ∷ xs) x (inl refl)

pub named_once : (deps : List (Vec ℕ Global)) (a b : List ℕ) → IsNamedCycle deps a → IsNamedCycle deps b → a ≡ b
named_once deps a b h k =
    let low : first_or a 0 ≤ first_or b 0 = h.least b (first_or b 0) k.cycle (first_in deps b k.cycle) in
    let up : first_or b 0 ≤ first_or a 0 = k.least a (first_or a 0) h.cycle (first_in deps a h.cycle) in
    let begin : first_or a 0 ≡ first_or b 0 = omega arith in
    let few : length a ≤ length b = h.shortest b k.cycle (sym begin) in
    let many : length b ≤ length a = k.shortest a h.cycle begin in
    let count : length a ≡ length b = omega arith in
    same_list a b count (h.earliest b k.cycle (sym begin) (sym count)) (k.earliest a h.cycle begin count)
