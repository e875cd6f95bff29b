-- Places in lists, and ranges of numbers.
use Rattle.std.proofs.Common.{◌≡◌, ℕ, zero, suc, ◌+◌, ◌<◌, ◌≤◌, Bool, true, false, ◌||◌, List, [], ◌∷◌, ◌++◌, Option, Some, map, length, get_or, refl, sym, ap, ◌∙◌, subst, arith, slice_get}
use Rattle.std.specs.Prelude.{filter_map, nat_eq}
use Rattle.std.specs.List.{cons_option, list_any, range_with_len}
use Rattle.std.specs.Option.{option_map}

pub slice_front : {X : Type 0} (xs ys : List X) (i : ℕ) → i < length xs → slice_get (xs ++ ys) i ≡ slice_get xs i
slice_front [] ys i lt = absurd (omega arith)
slice_front (x ∷ xs) ys zero lt = refl
slice_front (x ∷ xs) ys (suc i) lt = slice_front xs ys i (omega arith)

pub slice_last : {X : Type 0} (xs : List X) (x : X) → slice_get (xs ++ x ∷ []) (length xs) ≡ Some x
slice_last [] x = refl
slice_last (y ∷ xs) x = slice_last xs x

pub slice_map : {X Y : Type 0} (f : X → Y) (xs : List X) (i : ℕ) → slice_get (map f xs) i ≡ option_map f (slice_get xs i)
slice_map f [] i = refl
slice_map f (x ∷ xs) zero = refl
slice_map f (x ∷ xs) (suc i) = slice_map f xs i

pub slice_within : {X : Type 0} (xs : List X) (i : ℕ) → i < length xs → (x : X) × (slice_get xs i ≡ Some x)
slice_within [] i lt = absurd (omega arith)
slice_within (x ∷ xs) zero lt = (x, refl)
slice_within (x ∷ xs) (suc i) lt = slice_within xs i (omega arith)

pub map_same : {X Y : Type 0} (f g : X → Y) → ((x : X) → f x ≡ g x) → (xs : List X) → map f xs ≡ map g xs
map_same f g e [] = refl
map_same f g e (x ∷ xs) = ap (λ y. y ∷ map f xs) (e x) ∙ ap (λ ys. g x ∷ ys) (map_same f g e xs)

pub map_push : {X Y : Type 0} (f : X → Y) (xs : List X) (x : X) → map f (xs ++ x ∷ []) ≡ map f xs ++ f x ∷ []
map_push f [] x = refl
map_push f (y ∷ xs) x = ap (λ ys. f y ∷ ys) (map_push f xs x)

pub range_at : (a n i : ℕ) → i < n → slice_get (range_with_len a n) i ≡ Some (a + i)
range_at a zero i lt = absurd (omega arith)
range_at a (suc n) zero lt = ap Some (let e : a ≡ a + 0 = omega arith in e)
range_at a (suc n) (suc i) lt = range_at (a + 1) n i (omega arith) ∙ ap Some (let e : a + 1 + i ≡ a + suc i = omega arith in e)

pub range_push : (a n : ℕ) → range_with_len a (n + 1) ≡ range_with_len a n ++ (a + n) ∷ []
range_push a zero = ap (λ k. k ∷ []) (let e : a ≡ a + 0 = omega arith in e)
range_push a (suc n) = ap (range_with_len a) (let e : suc n + 1 ≡ suc (n + 1) = omega arith in e) ∙ ap (λ ks. a ∷ ks) (range_push (a + 1) n ∙ ap (λ k. range_with_len (a + 1) n ++ k ∷ []) (let e : a + 1 + n ≡ a + suc n = omega arith in e))

pub range_length : (a n : ℕ) → length (range_with_len a n) ≡ n
range_length a zero = refl
range_length a (suc n) = ap suc (range_length (a + 1) n)

-- what agrees on a range keeps the same of it
pub filter_range : {Y : Type 0} (f g : ℕ → Option Y) (a n : ℕ) → ((i : ℕ) → a ≤ i → i < a + n → f i ≡ g i) → filter_map f (range_with_len a n) ≡ filter_map g (range_with_len a n)
filter_range f g a zero e = refl
filter_range f g a (suc n) e =
    let here : f a ≡ g a = e a (omega arith) (omega arith) in
    let rest = filter_range f g (a + 1) n (λ i le lt. e i (omega (arith, le)) (omega (arith, lt))) in
    ap (λ o. cons_option o (filter_map f (range_with_len (a + 1) n))) here ∙ ap (λ ys. cons_option (g a) ys) rest

-- ---- numbers that are all different and below a number
pub mapped_at : {X : Type 0} (f : X → ℕ) (xs : List X) (i e : ℕ) → i < length xs → (x : X) × (slice_get xs i ≡ Some x) × (get_or (map f xs) i e ≡ f x)
mapped_at f [] i e lt = absurd (omega arith)
mapped_at f (x ∷ xs) zero e lt = (x, refl, refl)
mapped_at f (x ∷ xs) (suc i) e lt = mapped_at f xs i e (omega arith)

pub any_below : {X : Type 0} (f : X → ℕ) (xs : List X) (n q : ℕ) → ((i : ℕ) (x : X) → slice_get xs i ≡ Some x → f x < n) → list_any (nat_eq q) (map f xs) ≡ true → q < n
any_below f [] n q each h = let c : false ≡ true = h in cc
any_below f (x ∷ xs) n q each h = cases (nat_eq q (f x)) refl (any_below f xs n q (λ i y at. each (suc i) y at))
  where
    eq_of : (a b : ℕ) → nat_eq a b ≡ true → a ≡ b
    eq_of a b e = grind (arith, e)

    cases : (b : Bool) → nat_eq q (f x) ≡ b → (list_any (nat_eq q) (map f xs) ≡ true → q < n) → q < n
    cases true e later = subst (λ k. k < n) (sym (eq_of q (f x) e)) (each zero x refl)
    cases false e later = later (sym (ap (λ b. b || list_any (nat_eq q) (map f xs)) e) ∙ h)
