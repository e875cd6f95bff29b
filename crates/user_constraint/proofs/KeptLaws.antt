-- What is kept of a rule tells of each list of 64-bit numbers what the rule does, and the changes of a node lead from such
-- a list to such a list.
use Rattle.std.proofs.Common.{set, ◌≡◌, ℕ, ℤ, zero, suc, pos, negsuc, ◌+◌, ◌<◌, ◌^◌, true, false, true≢false, Bool, ◌&&◌, List, [], ◌∷◌, map, length, get_or, refl, sym, ap, ◌∙◌, subst, arith, w64, FitsSigned}
use native.Mathlib.Decide.{ℕ_discrete}
use Rattle.std.specs.Prelude.{Result, Ok, Err, OnOk, slice_index_or}
use Rattle.std.specs.List.{list_all, range_with_len}
use Rattle.node_base.specs.NumberChanges.{after_number_changes}
use Rattle.node_base.specs.declared.number_change.NumberChange.{NumberChange}
use Rattle.user_constraint.specs.KeptRule.{half, is_below, is_kept, kept, most, only, size_of, told_of, viol_at, viol_of}
use Rattle.user_constraint.specs.Moves.{AreToKept}
use Rattle.user_constraint.specs.UserRule.{UserRule}

is_less : (k n : ℕ) → k < n → is_below k n ≡ true
is_less k zero lt = absurd (omega (arith, lt))
is_less zero (suc n) lt = refl
is_less (suc k) (suc n) lt = is_less k n (omega (arith, lt))

half_is : half ≡ 2 ^ 63
unfolding half
half_is = refl

most_is : most ≡ 2 ^ 64
unfolding most
most_is = refl

fits_size : (x : ℤ) → FitsSigned w64 x → size_of x < 2 ^ 63
fits_size (pos n) fits = fits.sfits
fits_size (negsuc n) fits = fits.sfits

-- the first numbers of a list have 64 bits
abbrev pub AreFit : List ℤ → ℕ → Type 0
AreFit xs n = (i : ℕ) → i < n → FitsSigned w64 (get_or xs i (pos 0))

pub fit_more : (xs : List ℤ) (n : ℕ) → AreFit xs n → FitsSigned w64 (get_or xs n (pos 0)) → AreFit xs (n + 1)
fit_more xs n fit is i lt = by (ℕ_discrete i n)
  where
    by : Dec (i ≡ n) → FitsSigned w64 (get_or xs i (pos 0))
    by (yes e) = subst (λ k. FitsSigned w64 (get_or xs k (pos 0))) (sym e) is
    by (no ne) = fit i (omega (arith, ne, lt))

all_fit : (xs : List ℤ) → AreFit xs (length xs) → list_all (λ x. is_below (size_of x) half) xs ≡ true
all_fit [] fit = refl
all_fit (x ∷ xs) fit =
    let first : is_below (size_of x) half ≡ true = subst (λ n. is_below (size_of x) n ≡ true) (sym half_is) (is_less (size_of x) (2 ^ 63) (fits_size x (fit 0 (omega arith)))) in
    let rest : list_all (λ y. is_below (size_of y) half) xs ≡ true = all_fit xs (λ i lt. fit (suc i) (omega (arith, lt))) in
    ap (λ b. b && list_all (λ y. is_below (size_of y) half) xs) first ∙ rest

pub list_kept : (xs : List ℤ) → AreFit xs (length xs) → length xs < 2 ^ 64 → is_kept xs ≡ true
list_kept xs fit few =
    let short : is_below (length xs) most ≡ true = subst (λ n. is_below (length xs) n ≡ true) (sym most_is) (is_less (length xs) (2 ^ 64) few) in
    ap (λ b. b && is_below (length xs) most) (all_fit xs fit) ∙ short

pub kept_value : (rule : UserRule) (xs : List ℤ) → is_kept xs ≡ true → viol_of (kept rule) xs ≡ rule.viol_of xs
kept_value rule xs e = ap (λ b. slice_index_or (only b (told_of rule xs)) 0 0) e

at_range : (f : ℕ → ℕ) (a n i : ℕ) → i < n → slice_index_or (map f (range_with_len a n)) i 0 ≡ f (a + i)
at_range f a zero i lt = absurd (omega (arith, lt))
at_range f a (suc n) zero lt = ap f (let z : a ≡ a + 0 = omega arith in z)
at_range f a (suc n) (suc i) lt = at_range f (a + 1) n i (omega (arith, lt)) ∙ ap f (let z : a + 1 + i ≡ a + suc i = omega arith in z)

pub kept_at : (rule : UserRule) (xs : List ℤ) (place : ℕ) → is_kept xs ≡ true → place < length xs → viol_at (kept rule) xs place ≡ rule.viol_at xs place
kept_at rule xs place e lt = ap (λ b. slice_index_or (only b (told_of rule xs)) (suc place) 0) e ∙ at_range (rule.viol_at xs) 0 (length xs) place lt ∙ ap (rule.viol_at xs) (let z : 0 + place ≡ place = omega arith in z)

-- ---- other numbers at some places
both : (a b : Bool) → (a && b) ≡ true → (a ≡ true) × (b ≡ true)
both true b h = (refl, h)
both false b h = absurd (true≢false (sym h))

set_length : (xs : List ℤ) (i : ℕ) (x : ℤ) → length (set xs i x) ≡ length xs
set_length [] i x = refl
set_length (y ∷ ys) zero x = refl
set_length (y ∷ ys) (suc i) x = ap suc (set_length ys i x)

-- ---- another number at a place
all_set : (test : ℤ → Bool) (xs : List ℤ) (i : ℕ) (x : ℤ) → list_all test xs ≡ true → test x ≡ true → list_all test (set xs i x) ≡ true
all_set test [] i x all one = all
all_set test (y ∷ ys) zero x all one = ap (λ b. b && list_all test ys) one ∙ (both (test y) (list_all test ys) all).1
all_set test (y ∷ ys) (suc i) x all one = ap (λ b. b && list_all test (set ys i x)) (both (test y) (list_all test ys) all).0 ∙ all_set test ys i x (both (test y) (list_all test ys) all).1 one

is_small : (x : ℤ) → FitsSigned w64 x → is_below (size_of x) half ≡ true
is_small x fits = subst (λ n. is_below (size_of x) n ≡ true) (sym half_is) (is_less (size_of x) (2 ^ 63) (fits_size x fits))

set_small : (xs : List ℤ) (i : ℕ) (x : ℤ) → is_kept xs ≡ true → is_below (size_of x) half ≡ true → is_kept (set xs i x) ≡ true
set_small xs i x e one =
    let parts = both (list_all (λ y. is_below (size_of y) half) xs) (is_below (length xs) most) e in
    ap (λ b. b && is_below (length (set xs i x)) most) (all_set (λ y. is_below (size_of y) half) xs i x parts.0 one) ∙ ap (λ n. is_below n most) (set_length xs i x) ∙ parts.1

pub kept_set : (xs : List ℤ) (i : ℕ) (x : ℤ) → is_kept xs ≡ true → FitsSigned w64 x → is_kept (set xs i x) ≡ true
kept_set xs i x e fits = set_small xs i x e (is_small x fits)

-- the first changes are to numbers of 64 bits
abbrev no_change : NumberChange
no_change = record { place = 0; old = pos 0; new = pos 0 }

abbrev pub AreNewFit : List NumberChange → ℕ → Type 0
AreNewFit cs n = (i : ℕ) → i < n → FitsSigned w64 (get_or cs i no_change).new

pub new_more : (cs : List NumberChange) (n : ℕ) (c : NumberChange) → AreNewFit cs n → n < length cs → c ≡ get_or cs n c → FitsSigned w64 c.new → AreNewFit cs (n + 1)
new_more cs n c fit lt is fits i less = by (ℕ_discrete i n)
  where
    same : (xs : List NumberChange) (k : ℕ) (a b : NumberChange) → k < length xs → get_or xs k a ≡ get_or xs k b
    same [] k a b l = absurd (omega (arith, l))
    same (x ∷ xs) zero a b l = refl
    same (x ∷ xs) (suc k) a b l = same xs k a b (omega (arith, l))

    by : Dec (i ≡ n) → FitsSigned w64 (get_or cs i no_change).new
    by (yes e) = subst (λ k. FitsSigned w64 (get_or cs k no_change).new) (sym e) (subst (λ (d : NumberChange). FitsSigned w64 d.new) (is ∙ same cs n c no_change lt) fits)
    by (no ne) = fit i (omega (arith, ne, less))

pub all_new : (cs : List NumberChange) → AreNewFit cs (length cs) → AreToKept cs
all_new [] fit = tt
all_new (c ∷ cs) fit = (is_small c.new (fit 0 (omega arith)), all_new cs (λ i lt. fit (suc i) (omega (arith, lt))))

pub kept_changes : (xs : List ℤ) (cs : List NumberChange) → is_kept xs ≡ true → AreToKept cs → is_kept (after_number_changes xs cs) ≡ true
kept_changes xs [] e are = e
kept_changes xs (c ∷ cs) e are = kept_changes (set xs c.place c.new) cs (set_small xs c.place c.new e are.0) are.1

-- ---- what comes of a call that may fail
pub on_ok : {A E : Type 0} (usable : Type 0) (held new : List ℤ) (r : Result A E) → OnOk r usable → OnOk r (held ≡ new) → is_kept new ≡ true → OnOk r (usable × (is_kept held ≡ true))
on_ok usable held new (Ok v) u h e = (u, ap is_kept h ∙ e)
on_ok usable held new (Err f) u h e = tt
