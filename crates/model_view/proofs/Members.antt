-- What stands in a list, by recursion, and in lists that are made of others.
use Rattle.std.proofs.Common.{◌≡◌, refl, sym, ap, ◌∙◌, ℕ, zero, suc, ◌+◌, ◌<◌, ◌≤◌, Bool, true, false, ◌||◌, ◌⊎◌, inl, inr, List, [], ◌∷◌, ◌++◌, map, nat_eq, rules, arith}
use Rattle.std.specs.Prelude.{filter, if◌then◌else◌}
use Rattle.std.specs.List.{Contains, list_any, range_with_len}

abbrev pub In : {X : Type 0} → X → List X → Type 0
In x [] = ⊥
In x (y ∷ ys) = (y ≡ x) ⊎ In x ys

pub in_left : {X : Type 0} (xs ys : List X) (x : X) → In x xs → In x (xs ++ ys)
in_left [] ys x h = absurd h
in_left (y ∷ xs) ys x (inl e) = inl e
in_left (y ∷ xs) ys x (inr h) = inr (in_left xs ys x h)

pub in_right : {X : Type 0} (xs ys : List X) (x : X) → In x ys → In x (xs ++ ys)
in_right [] ys x h = h
in_right (y ∷ xs) ys x h = inr (in_right xs ys x h)

pub in_either : {X : Type 0} (xs ys : List X) (x : X) → In x (xs ++ ys) → In x xs ⊎ In x ys
in_either [] ys x h = inr h
in_either (y ∷ xs) ys x (inl e) = inl (inl e)
in_either (y ∷ xs) ys x (inr h) = further (in_either xs ys x h) where
  further : In x xs ⊎ In x ys → In x (y ∷ xs) ⊎ In x ys
  further (inl k) = inl (inr k)
  further (inr k) = inr k

pub in_map : {X Y : Type 0} (f : X → Y) (xs : List X) (x : X) → In x xs → In (f x) (map f xs)
in_map f [] x h = absurd h
in_map f (y ∷ xs) x (inl e) = inl (ap f e)
in_map f (y ∷ xs) x (inr h) = inr (in_map f xs x h)

pub in_map_back : {X Y : Type 0} (f : X → Y) (xs : List X) (y : Y) → In y (map f xs) → (x : X) × In x xs × (f x ≡ y)
in_map_back f [] y h = absurd h
in_map_back f (x ∷ xs) y (inl e) = (x, inl refl, e)
in_map_back f (x ∷ xs) y (inr h) = let k = in_map_back f xs y h in (k.0, inr k.1, k.2)

-- what passes a test

pub in_filter : {X : Type 0} (p : X → Bool) (xs : List X) (x : X) → In x xs → p x ≡ true → In x (filter p xs)
in_filter p [] x h t = absurd h
in_filter p (y ∷ xs) x h t = by_test (p y) refl h (λ k. in_filter p xs x k t) where
  by_test : (b : Bool) → p y ≡ b → (y ≡ x) ⊎ In x xs → (In x xs → In x (filter p xs)) → In x (if b then y ∷ filter p xs else filter p xs)
  by_test true e (inl k) rest = inl k
  by_test true e (inr k) rest = inr (rest k)
  by_test false e (inl k) rest = (let no : false ≡ true = sym e ∙ ap p k ∙ t in absurd cc)
  by_test false e (inr k) rest = rest k

pub in_filter_back : {X : Type 0} (p : X → Bool) (xs : List X) (x : X) → In x (filter p xs) → In x xs × (p x ≡ true)
in_filter_back p [] x h = absurd h
in_filter_back p (y ∷ xs) x h = by_test (p y) refl h (λ k. in_filter_back p xs x k) where
  by_test : (b : Bool) → p y ≡ b → In x (if b then y ∷ filter p xs else filter p xs) → (In x (filter p xs) → In x xs × (p x ≡ true)) → In x (y ∷ xs) × (p x ≡ true)
  by_test true e (inl k) rest = (inl k, sym (ap p k) ∙ e)
  by_test true e (inr k) rest = (inr (rest k).0, (rest k).1)
  by_test false e k rest = (inr (rest k).0, (rest k).1)

-- numbers in a row

pub in_range : (a n x : ℕ) → a ≤ x → x < a + n → In x (range_with_len a n)
in_range a zero x h k = absurd (omega arith)
in_range a (suc n) x h k = by_test (nat_eq a x) refl (λ more. in_range (a + 1) n x more (omega arith)) where
  by_test : (b : Bool) → nat_eq a x ≡ b → (a + 1 ≤ x → In x (range_with_len (a + 1) n)) → (a ≡ x) ⊎ In x (range_with_len (a + 1) n)
  by_test true e rest = inl (search rules)
  by_test false e rest = inr (let apart : ¬ (a ≡ x) = search rules in rest (omega arith))

-- `Contains` and tests

pub in_of : (xs : List ℕ) (x : ℕ) → Contains xs x → In x xs
in_of [] x h = let lt = h.1 in absurd (omega arith)
in_of (y ∷ xs) x (zero, lt, e) = inl e
in_of (y ∷ xs) x (suc k, lt, e) = inr (in_of xs x (k, omega arith, e))

pub of_in : (xs : List ℕ) (x : ℕ) → In x xs → Contains xs x
of_in [] x h = absurd h
of_in (y ∷ xs) x (inl e) = (0, omega arith, e)
of_in (y ∷ xs) x (inr h) = let k = of_in xs x h in let lt = k.1 in (suc k.0, omega arith, k.2)

pub any_in : (w : ℕ) (xs : List ℕ) → list_any (λ x. nat_eq w x) xs ≡ true → In w xs
any_in w [] h = (let no : false ≡ true = h in absurd cc)
any_in w (x ∷ xs) h = by_test (nat_eq w x) refl h (λ k. any_in w xs k) where
  by_test : (b : Bool) → nat_eq w x ≡ b → (b || list_any (λ x. nat_eq w x) xs) ≡ true → (list_any (λ x. nat_eq w x) xs ≡ true → In w xs) → (x ≡ w) ⊎ In w xs
  by_test true e k rest = inl (let same : w ≡ x = search rules in sym same)
  by_test false e k rest = inr (rest k)

pub in_any : (w : ℕ) (xs : List ℕ) → In w xs → list_any (λ x. nat_eq w x) xs ≡ true
in_any w [] h = absurd h
in_any w (x ∷ xs) (inl e) = let same : nat_eq w x ≡ true = search (rules, sym e) in ap (λ b. b || list_any (λ x. nat_eq w x) xs) same
in_any w (x ∷ xs) (inr h) = or_true (nat_eq w x) _ (in_any w xs h) where
  or_true : (b c : Bool) → c ≡ true → (b || c) ≡ true
  or_true true c k = refl
  or_true false c k = k
