-- Kept rules have a code: what they tell of all lists of 64-bit numbers, one list after another. That this tells them apart
-- is shown here by recursion over the lists.
use Rattle.std.specs.Prelude.{◌≡◌, ◌⊎◌, ℕ, zero, suc, ℤ, pos, negsuc, Bool, true, false, ◌&&◌, List, [], ◌∷◌, ◌++◌, map, length}
use Rattle.std.proofs.Common.{ap, sym, subst, ◌∙◌, true≢false}
use Rattle.std.specs.List.{list_all}
use Rattle.std.specs.Coded.{Coded, Coded-set, coded_list, coded_ℕ, Π_prop}
use mathlib.Core.Path.{path_j}
use mathlib.Core.Logic.{inl, inr}
use base.Stored.{coded_via}
use Rattle.user_constraint.specs.KeptRule.{KeptRule, half, is_below, is_kept, is_list_of, most, size_of}

-- ---- membership, by recursion
abbrev Has : {X : Type 0} → List X → X → Type 0
Has [] x = ⊥
Has (y ∷ ys) x = (y ≡ x) ⊎ Has ys x

has_map : {X Y : Type 0} (f : X → Y) (xs : List X) (x : X) → Has xs x → Has (map f xs) (f x)
has_map f [] x h = absurd h
has_map f (y ∷ ys) x (inl e) = inl (ap f e)
has_map f (y ∷ ys) x (inr h) = inr (has_map f ys x h)

has_left : {X : Type 0} (xs ys : List X) (x : X) → Has xs x → Has (xs ++ ys) x
has_left [] ys x h = absurd h
has_left (z ∷ zs) ys x (inl e) = inl e
has_left (z ∷ zs) ys x (inr h) = inr (has_left zs ys x h)

has_right : {X : Type 0} (xs ys : List X) (x : X) → Has ys x → Has (xs ++ ys) x
has_right [] ys x h = h
has_right (z ∷ zs) ys x h = inr (has_right zs ys x h)

both : (a b : Bool) → (a && b) ≡ true → (a ≡ true) × (b ≡ true)
both true b h = (λ i. true, h)
both false b h = absurd (true≢false (sym h))

-- ---- all numbers of a size below, and all lists of such that are shorter than this
below : ℕ → List ℕ
below zero = []
below (suc n) = zero ∷ map suc (below n)

has_below : (k n : ℕ) → is_below k n ≡ true → Has (below n) k
unfolding below
has_below k zero h = absurd (true≢false (sym h))
has_below zero (suc n) h = inl (λ i. zero)
has_below (suc k) (suc n) h = inr (has_map suc (below n) k (has_below k n h))

numbers : ℕ → List ℤ
numbers size = map pos (below size) ++ map negsuc (below size)

has_number : (size : ℕ) (x : ℤ) → is_below (size_of x) size ≡ true → Has (numbers size) x
unfolding numbers
has_number size (pos n) h = has_left (map pos (below size)) (map negsuc (below size)) (pos n) (has_map pos (below size) n (has_below n size h))
has_number size (negsuc n) h = has_right (map pos (below size)) (map negsuc (below size)) (negsuc n) (has_map negsuc (below size) n (has_below n size h))

begun : ℤ → List ℤ → List ℤ
begun x xs = x ∷ xs

longer : List ℤ → List (List ℤ) → List (List ℤ)
longer [] lists = []
longer (x ∷ xs) lists = map (begun x) lists ++ longer xs lists

has_longer : (ns : List ℤ) (lists : List (List ℤ)) (x : ℤ) (xs : List ℤ) → Has ns x → Has lists xs → Has (longer ns lists) (x ∷ xs)
unfolding longer begun
has_longer [] lists x xs h g = absurd h
has_longer (n ∷ ns) lists x xs (inl e) g = has_left (map (begun n) lists) (longer ns lists) (x ∷ xs) (at e)
  where
    at : n ≡ x → Has (map (begun n) lists) (x ∷ xs)
    at e = subst (λ m. Has (map (begun m) lists) (x ∷ xs)) (sym e) (has_map (begun x) lists xs g)
has_longer (n ∷ ns) lists x xs (inr h) g = has_right (map (begun n) lists) (longer ns lists) (x ∷ xs) (has_longer ns lists x xs h g)

lists_below : List ℤ → ℕ → List (List ℤ)
lists_below ns zero = []
lists_below ns (suc count) = [] ∷ longer ns (lists_below ns count)

has_list : (size count : ℕ) (xs : List ℤ) → is_list_of size count xs ≡ true → Has (lists_below (numbers size) count) xs
unfolding lists_below
has_list size zero xs h = absurd (true≢false (sym (both (list_all (λ x. is_below (size_of x) size) xs) (is_below (length xs) zero) h).1))
has_list size (suc count) [] h = inl (λ i. [])
has_list size (suc count) (x ∷ xs) h =
    let parts = both (list_all (λ y. is_below (size_of y) size) (x ∷ xs)) (is_below (length (x ∷ xs)) (suc count)) h in
    let first = both (is_below (size_of x) size) (list_all (λ y. is_below (size_of y) size) xs) parts.0 in
    inr (has_longer (numbers size) (lists_below (numbers size) count) x xs (has_number size x first.0) (has_list size count xs (joined first.1 parts.1)))
  where
    joined : list_all (λ y. is_below (size_of y) size) xs ≡ true → is_below (length xs) count ≡ true → is_list_of size count xs ≡ true
    joined a b = λ i. a i && b i

all_lists : List (List ℤ)
all_lists = lists_below (numbers half) most

has_kept : (xs : List ℤ) → is_kept xs ≡ true → Has all_lists xs
unfolding all_lists
has_kept xs h = has_list half most xs h

-- ---- what tells two rules apart
pub told_all : KeptRule → List (List ℕ)
told_all rule = map rule.told all_lists

first_told : List (List ℕ) → List ℕ
first_told [] = []
first_told (x ∷ xs) = x

rest_told : List (List ℕ) → List (List ℕ)
rest_told [] = []
rest_told (x ∷ xs) = xs

same_among : (f g : List ℤ → List ℕ) (lists : List (List ℤ)) → map f lists ≡ map g lists → (xs : List ℤ) → Has lists xs → f xs ≡ g xs
unfolding first_told rest_told
same_among f g [] e xs h = absurd h
same_among f g (l ∷ ls) e xs (inl is) = sym (ap f is) ∙ (ap first_told e ∙ ap g is)
same_among f g (l ∷ ls) e xs (inr h) = same_among f g ls (ap rest_told e) xs h

module _ (r s : KeptRule) (e : told_all r ≡ told_all s) where
  by : (xs : List ℤ) (b : Bool) → is_kept xs ≡ b → r.told xs ≡ s.told xs
  unfolding told_all all_lists
  by xs true h = same_among r.told s.told all_lists e xs (has_kept xs h)
  by xs false h = r.nothing xs h ∙ sym (s.nothing xs h)

  told_same : r.told ≡ s.told
  told_same = λ i xs. by xs (is_kept xs) (λ j. is_kept xs) i

abbrev TellsNothing : (List ℤ → List ℕ) → Type 0
TellsNothing told = (xs : List ℤ) → is_kept xs ≡ false → told xs ≡ []

nothing_prop : (told : List ℤ → List ℕ) → IsProp (TellsNothing told)
nothing_prop told = Π_prop (λ xs. Π_prop (λ _. λ p q. Coded-set (coded_list coded_ℕ) (told xs) [] p q))

same_rule : (f : List ℤ → List ℕ) (n : TellsNothing f) (g : List ℤ → List ℕ) → f ≡ g → (m : TellsNothing g) → ◌≡◌ {A = KeptRule} (record { told = f; nothing = n }) (record { told = g; nothing = m })
same_rule f n g e = path_j (λ (h : List ℤ → List ℕ) (_ : f ≡ h). (m : TellsNothing h) → ◌≡◌ {A = KeptRule} (record { told = f; nothing = n }) (record { told = h; nothing = m })) (λ m i. record { told = f; nothing = nothing_prop f n m i }) e

pub told_apart : (r s : KeptRule) → told_all r ≡ told_all s → r ≡ s
told_apart r s e = same_rule r.told r.nothing s.told (told_same r s e) s.nothing

-- rules that tell the same are the same
pub told_alike : (r s : KeptRule) → ((xs : List ℤ) → r.told xs ≡ s.told xs) → r ≡ s
told_alike r s e = same_rule r.told r.nothing s.told (λ i xs. e xs i) s.nothing

abbrev pub rule_code : Coded KeptRule
rule_code = coded_via (coded_list (coded_list coded_ℕ)) told_all told_apart
