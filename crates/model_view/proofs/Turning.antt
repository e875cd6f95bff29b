-- Cycles: whether a list is one is tested, each item of a cycle begins one, and a cycle has no more items than there are.
use Rattle.std.proofs.Common.{◌≡◌, refl, sym, subst, ap, Vec, ℕ, zero, suc, ◌<◌, ◌≤◌, Bool, true, false, not, ◌&&◌, ◌||◌, inl, inr, List, [], ◌∷◌, ◌++◌, length, nat_eq, rules, arith}
use Rattle.std.specs.Prelude.{filter, if◌then◌else◌}
use Rattle.std.specs.List.{list_any}
use Rattle.std.specs.declared.alloc.Global.{Global}
use Rattle.layer_plan.specs.Cycles.{first_or, Lacks, IsDistinct, Leads, IsCycle}
use Rattle.model_view.specs.Naming.{depends, are_distinct, last_behind, is_cycle}
use Rattle.model_view.proofs.Members.{In, in_filter_back}
use Rattle.model_view.proofs.Chains.{IsChain, depends_on, on_depends, leads_of, of_leads}

-- distinct items, as a test

and_parts : (a b : Bool) → (a && b) ≡ true → (a ≡ true) × (b ≡ true)
and_parts true b h = (refl, h)
and_parts false b h = (let no : false ≡ true = h in absurd cc)

and_join : (a b : Bool) → a ≡ true → b ≡ true → (a && b) ≡ true
and_join true b h k = k
and_join false b h k = h

abbrev stands : ℕ → List ℕ → Bool
stands x xs = list_any (λ y. nat_eq y x) xs

lacks_of : (x : ℕ) (xs : List ℕ) → not (stands x xs) ≡ true → Lacks xs x
lacks_of x [] h = tt
lacks_of x (y ∷ ys) h = by_test (nat_eq y x) refl h (λ k. lacks_of x ys k) where
  by_test : (b : Bool) → nat_eq y x ≡ b → not (b || stands x ys) ≡ true → (not (stands x ys) ≡ true → Lacks ys x) → ¬ (y ≡ x) × Lacks ys x
  by_test true e k rest = (let no : false ≡ true = k in absurd cc)
  by_test false e k rest = (search rules, rest k)

of_lacks : (x : ℕ) (xs : List ℕ) → Lacks xs x → not (stands x xs) ≡ true
of_lacks x [] h = refl
of_lacks x (y ∷ ys) h = by_test (nat_eq y x) refl (of_lacks x ys h.1) where
  by_test : (b : Bool) → nat_eq y x ≡ b → not (stands x ys) ≡ true → not (b || stands x ys) ≡ true
  by_test true e k = (let same : y ≡ x = search rules in absurd (h.0 same))
  by_test false e k = k

pub distinct_of : (xs : List ℕ) → are_distinct xs ≡ true → IsDistinct xs
distinct_of [] h = tt
distinct_of (x ∷ xs) h = let k = and_parts (not (stands x xs)) (are_distinct xs) h in (lacks_of x xs k.0, distinct_of xs k.1)

pub of_distinct : (xs : List ℕ) → IsDistinct xs → are_distinct xs ≡ true
of_distinct [] h = refl
of_distinct (x ∷ xs) h = and_join (not (stands x xs)) (are_distinct xs) (of_lacks x xs h.0) (of_distinct xs h.1)

-- cycles, as a test

pub cycle_of : (deps : List (Vec ℕ Global)) (v : ℕ) (vs : List ℕ) → IsChain deps v vs → is_cycle deps (v ∷ vs) ≡ true → IsCycle deps (v ∷ vs)
cycle_of deps v vs c h =
    let k = and_parts (are_distinct (v ∷ vs)) (depends deps (last_behind v vs) v) h in
    (distinct_of (v ∷ vs) k.0, leads_of deps v vs v c (depends_on deps (last_behind v vs) v k.1))

pub of_cycle : (deps : List (Vec ℕ Global)) (v : ℕ) (vs : List ℕ) → IsCycle deps (v ∷ vs) → IsChain deps v vs × (is_cycle deps (v ∷ vs) ≡ true)
of_cycle deps v vs c =
    let k = of_leads deps v vs v c.1 in
    (k.0, and_join (are_distinct (v ∷ vs)) (depends deps (last_behind v vs) v) (of_distinct (v ∷ vs) c.0) (on_depends deps (last_behind v vs) v k.1))

-- a cycle may begin at each of its items

abbrev StandsAt : ℕ → ℕ → List ℕ → Type 0
StandsAt item k [] = ⊥
StandsAt item zero (x ∷ xs) = x ≡ item
StandsAt item (suc k) (x ∷ xs) = StandsAt item k xs

at_of : (item : ℕ) (xs : List ℕ) → In item xs → (k : ℕ) × StandsAt item k xs
at_of item [] h = absurd h
at_of item (x ∷ xs) (inl e) = (0, e)
at_of item (x ∷ xs) (inr h) = let r = at_of item xs h in (suc r.0, r.1)

at_before : (item k : ℕ) (xs ys : List ℕ) → StandsAt item k xs → StandsAt item k (xs ++ ys)
at_before item zero [] ys h = absurd h
at_before item (suc k) [] ys h = absurd h
at_before item zero (x ∷ xs) ys h = h
at_before item (suc k) (x ∷ xs) ys h = at_before item k xs ys h

leads_join : (deps : List (Vec ℕ Global)) (xs ys : List ℕ) (end : ℕ) → Leads deps xs (first_or ys end) → Leads deps ys end → Leads deps (xs ++ ys) end
leads_join deps [] ys end a b = b
leads_join deps (x ∷ []) ys end a b = (a.0, b)
leads_join deps (x ∷ z ∷ zs) ys end a b = (a.0, leads_join deps (z ∷ zs) ys end a.1 b)

lacks_push : (xs : List ℕ) (x y : ℕ) → Lacks xs y → ¬ (x ≡ y) → Lacks (xs ++ x ∷ []) y
lacks_push [] x y h k = (k, tt)
lacks_push (z ∷ zs) x y h k = (h.0, lacks_push zs x y h.1 k)

lacks_first : (xs : List ℕ) (y x : ℕ) → Lacks (y ∷ xs) x → ¬ (x ≡ y)
lacks_first xs y x h = λ e. h.0 (sym e)

distinct_push : (xs : List ℕ) (x : ℕ) → IsDistinct xs → Lacks xs x → IsDistinct (xs ++ x ∷ [])
distinct_push [] x h k = (tt, tt)
distinct_push (y ∷ ys) x h k = (lacks_push ys x y h.0 (lacks_first ys y x k), distinct_push ys x h.1 k.1)

turned : (deps : List (Vec ℕ Global)) (x y : ℕ) (ys : List ℕ) → IsCycle deps (x ∷ y ∷ ys) → IsCycle deps (y ∷ ys ++ x ∷ [])
turned deps x y ys c = (distinct_push (y ∷ ys) x c.0.1 c.0.0, leads_join deps (y ∷ ys) (x ∷ []) y c.1.1 (c.1.0, tt))

begun_at : (deps : List (Vec ℕ Global)) (item k x : ℕ) (xs : List ℕ) → IsCycle deps (x ∷ xs) → StandsAt item k (x ∷ xs) → (rest : List ℕ) × IsCycle deps (item ∷ rest)
begun_at deps item zero x xs c h = (xs, subst (λ y. IsCycle deps (y ∷ xs)) h c)
begun_at deps item (suc k) x [] c h = absurd h
begun_at deps item (suc k) x (y ∷ ys) c h = begun_at deps item k y (ys ++ x ∷ []) (turned deps x y ys c) (at_before item k (y ∷ ys) (x ∷ []) h)

pub begun : (deps : List (Vec ℕ Global)) (list : List ℕ) (item : ℕ) → IsCycle deps list → In item list → (rest : List ℕ) × IsCycle deps (item ∷ rest)
begun deps [] item c h = absurd c
begun deps (x ∷ xs) item c h = let r = at_of item (x ∷ xs) h in begun_at deps item r.0 x xs c r.1

-- distinct numbers below a number are no more than it

abbrev without : ℕ → List ℕ → List ℕ
without n xs = filter (λ x. not (nat_eq x n)) xs

lacks_without : (n x : ℕ) (xs : List ℕ) → Lacks xs x → Lacks (without n xs) x
lacks_without n x [] h = tt
lacks_without n x (y ∷ ys) h = by_test (not (nat_eq y n)) (lacks_without n x ys h.1) where
  by_test : (b : Bool) → Lacks (without n ys) x → Lacks (if b then y ∷ without n ys else without n ys) x
  by_test true k = (h.0, k)
  by_test false k = k

distinct_without : (n : ℕ) (xs : List ℕ) → IsDistinct xs → IsDistinct (without n xs)
distinct_without n [] h = tt
distinct_without n (y ∷ ys) h = by_test (not (nat_eq y n)) (distinct_without n ys h.1) where
  by_test : (b : Bool) → IsDistinct (without n ys) → IsDistinct (if b then y ∷ without n ys else without n ys)
  by_test true k = (lacks_without n y ys h.0, k)
  by_test false k = k

all_stay : (n : ℕ) (xs : List ℕ) → Lacks xs n → length (without n xs) ≡ length xs
all_stay n [] h = refl
all_stay n (y ∷ ys) h = by_test (nat_eq y n) refl (all_stay n ys h.1) where
  by_test : (b : Bool) → nat_eq y n ≡ b → length (without n ys) ≡ length ys → length (if not b then y ∷ without n ys else without n ys) ≡ suc (length ys)
  by_test true e k = (let same : y ≡ n = search rules in absurd (h.0 same))
  by_test false e k = ap suc k

one_goes : (n : ℕ) (xs : List ℕ) → IsDistinct xs → length xs ≤ suc (length (without n xs))
one_goes n [] h = omega arith
one_goes n (y ∷ ys) h = by_test (nat_eq y n) refl (one_goes n ys h.1) where
  by_test : (b : Bool) → nat_eq y n ≡ b → length ys ≤ suc (length (without n ys)) → suc (length ys) ≤ suc (length (if not b then y ∷ without n ys else without n ys))
  by_test true e k = (let same : y ≡ n = search rules in let all : length (without n ys) ≡ length ys = all_stay n ys (subst (λ z. Lacks ys z) same h.0) in omega arith)
  by_test false e k = omega arith

pub no_more : (n : ℕ) (xs : List ℕ) → IsDistinct xs → ((x : ℕ) → In x xs → x < n) → length xs ≤ n
no_more zero [] h k = omega arith
no_more zero (x ∷ xs) h k = let lt = k x (inl refl) in absurd (omega arith)
no_more (suc n) xs h k =
    let fewer : length (without n xs) ≤ n = no_more n (without n xs) (distinct_without n xs h) (λ x at. below x (in_filter_back (λ y. not (nat_eq y n)) xs x at)) in
    let one = one_goes n xs h in
    omega arith where
      below : (x : ℕ) → In x xs × (not (nat_eq x n) ≡ true) → x < n
      below x r = by_test (nat_eq x n) refl r.1 where
        by_test : (b : Bool) → nat_eq x n ≡ b → not b ≡ true → x < n
        by_test true e q = (let no : false ≡ true = q in absurd cc)
        by_test false e q = (let apart : ¬ (x ≡ n) = search rules in let lt = k x r.0 in omega arith)
