-- The changes that make one list of numbers into another of its length, place by place.
use Rattle.std.proofs.Common.{◌≡◌, ℕ, suc, ◌+◌, ◌<◌, ◌≤◌, ℤ, Bool, true, false, cond, List, [], ◌∷◌, ◌++◌, length, get_or, set, drop, refl, ap, sym, ◌∙◌, subst, arith}
use Rattle.std.specs.Prelude.{Some, slice_get}
use Rattle.std.specs.Ordering.{int_eq}
use Rattle.cbl_base.specs.declared.input.Input.TheVariants.{Int}
use Rattle.cbl_base.specs.declared.input.Change.{Change}
use Rattle.cbl_base.specs.declared.input.Change.TheVariants.{Int as IntChange}
use Rattle.cbl_base.specs.Inputs.{as_inputs}
use Rattle.cbl_base.specs.Changes.{after_changes, NoneAt, AreChanges}
use Rattle.cbl_base.proofs.SetLemmas.{int_eq-true}
use Rattle.std.proofs.lemmas.List.{drop_more, drop_all}
use Rattle.std.proofs.Common.{append-nil}

-- from the place p on
pub changes_from : ℕ → List ℤ → List ℤ → List Change
changes_from p [] ys = []
changes_from p (x ∷ xs) [] = []
changes_from p (x ∷ xs) (y ∷ ys) = cond (int_eq y x) (changes_from (suc p) xs ys) (IntChange p x y ∷ changes_from (suc p) xs ys)

none_before : (q p : ℕ) (xs ys : List ℤ) → q < p → NoneAt q (changes_from p xs ys)
unfolding changes_from
none_before q p [] ys lt = tt
none_before q p (x ∷ xs) [] lt = tt
none_before q p (x ∷ xs) (y ∷ ys) lt = by_test (int_eq y x) (none_before q (suc p) xs ys (omega arith))
  where
    by_test : (b : Bool) → NoneAt q (changes_from (suc p) xs ys) → NoneAt q (cond b (changes_from (suc p) xs ys) (IntChange p x y ∷ changes_from (suc p) xs ys))
    by_test true later = later
    by_test false later = ((λ e. omega (arith, e)), later)

read_behind : (front : List ℤ) (x : ℤ) (xs : List ℤ) → slice_get (as_inputs (front ++ x ∷ xs)) (length front) ≡ Some (Int x)
read_behind [] x xs = refl
read_behind (z ∷ front) x xs = read_behind front x xs

write_behind : (front : List ℤ) (x y : ℤ) (xs : List ℤ) → set (as_inputs (front ++ x ∷ xs)) (length front) (Int y) ≡ as_inputs (front ++ y ∷ xs)
write_behind [] x y xs = refl
write_behind (z ∷ front) x y xs = ap (λ t. Int z ∷ t) (write_behind front x y xs)

moved_in : (front : List ℤ) (x : ℤ) (xs : List ℤ) → (front ++ x ∷ []) ++ xs ≡ front ++ x ∷ xs
moved_in [] x xs = refl
moved_in (z ∷ front) x xs = ap (λ t. z ∷ t) (moved_in front x xs)

longer : (front : List ℤ) (x : ℤ) → length (front ++ x ∷ []) ≡ suc (length front)
longer [] x = refl
longer (z ∷ front) x = ap suc (longer front x)

pub are_changes_from : (front xs ys : List ℤ) → AreChanges (as_inputs (front ++ xs)) (changes_from (length front) xs ys)
unfolding changes_from
are_changes_from front [] ys = tt
are_changes_from front (x ∷ xs) [] = tt
are_changes_from front (x ∷ xs) (y ∷ ys) =
    by_test (int_eq y x) (subst (λ p. AreChanges (as_inputs (front ++ x ∷ xs)) (changes_from p xs ys)) (longer front x) (subst (λ t. AreChanges (as_inputs t) (changes_from (length (front ++ x ∷ [])) xs ys)) (moved_in front x xs) (are_changes_from (front ++ x ∷ []) xs ys)))
  where
    by_test : (b : Bool) → AreChanges (as_inputs (front ++ x ∷ xs)) (changes_from (suc (length front)) xs ys) → AreChanges (as_inputs (front ++ x ∷ xs)) (cond b (changes_from (suc (length front)) xs ys) (IntChange (length front) x y ∷ changes_from (suc (length front)) xs ys))
    by_test true later = later
    by_test false later = (read_behind front x xs, none_before (length front) (suc (length front)) xs ys (omega arith), later)

pub after_changes_from : (front xs ys : List ℤ) → length ys ≡ length xs → after_changes (as_inputs (front ++ xs)) (changes_from (length front) xs ys) ≡ as_inputs (front ++ ys)
unfolding changes_from
after_changes_from front [] [] long = refl
after_changes_from front [] (y ∷ ys) long = absurd (omega (arith, long))
after_changes_from front (x ∷ xs) [] long = absurd (omega (arith, long))
after_changes_from front (x ∷ xs) (y ∷ ys) long =
    by_test (int_eq y x) (λ t. int_eq-true y x t)
    (ap (λ t. after_changes (as_inputs t) (changes_from (suc (length front)) xs ys)) (sym (moved_in front y xs)) ∙ ap (λ p. after_changes (as_inputs ((front ++ y ∷ []) ++ xs)) (changes_from p xs ys)) (sym (longer front y)) ∙ after_changes_from (front ++ y ∷ []) xs ys (omega (arith, long)) ∙ ap as_inputs (moved_in front y ys))
  where
    by_test : (b : Bool) → (b ≡ true → y ≡ x) → after_changes (as_inputs (front ++ y ∷ xs)) (changes_from (suc (length front)) xs ys) ≡ as_inputs (front ++ y ∷ ys)
        → after_changes (as_inputs (front ++ x ∷ xs)) (cond b (changes_from (suc (length front)) xs ys) (IntChange (length front) x y ∷ changes_from (suc (length front)) xs ys)) ≡ as_inputs (front ++ y ∷ ys)
    by_test true same later = ap (λ z. after_changes (as_inputs (front ++ z ∷ xs)) (changes_from (suc (length front)) xs ys)) (sym (same refl)) ∙ later
    by_test false same later = ap (λ t. after_changes t (changes_from (suc (length front)) xs ys)) (write_behind front x y xs) ∙ later

-- a loop's step: at the place i the numbers are equal, or differ
step_at : (p : ℕ) (xs ys : List ℤ) (i : ℕ) (d : ℤ) → i < length xs → length ys ≡ length xs
    → changes_from p (drop i xs) (drop i ys) ≡ cond (int_eq (get_or ys i d) (get_or xs i d)) (changes_from (suc p) (drop (i + 1) xs) (drop (i + 1) ys)) (IntChange p (get_or xs i d) (get_or ys i d) ∷ changes_from (suc p) (drop (i + 1) xs) (drop (i + 1) ys))
unfolding changes_from
step_at p xs ys i d lt long =
    ap (λ t. changes_from p t (drop i ys)) (drop_more xs i d lt) ∙ ap (λ t. changes_from p (get_or xs i d ∷ drop (i + 1) xs) t) (drop_more ys i d (omega (arith, long)))

pub step_same : (xs ys : List ℤ) (i : ℕ) (d : ℤ) → i < length xs → length ys ≡ length xs → int_eq (get_or ys i d) (get_or xs i d) ≡ true
    → changes_from i (drop i xs) (drop i ys) ≡ changes_from (i + 1) (drop (i + 1) xs) (drop (i + 1) ys)
step_same xs ys i d lt long e =
    step_at i xs ys i d lt long ∙ ap (λ b. cond b (changes_from (suc i) (drop (i + 1) xs) (drop (i + 1) ys)) (IntChange i (get_or xs i d) (get_or ys i d) ∷ changes_from (suc i) (drop (i + 1) xs) (drop (i + 1) ys))) e ∙ ap (λ p. changes_from p (drop (i + 1) xs) (drop (i + 1) ys)) (omega arith)

pub step_differs : (xs ys : List ℤ) (i : ℕ) (d : ℤ) → i < length xs → length ys ≡ length xs → int_eq (get_or ys i d) (get_or xs i d) ≡ false
    → changes_from i (drop i xs) (drop i ys) ≡ IntChange i (get_or xs i d) (get_or ys i d) ∷ changes_from (i + 1) (drop (i + 1) xs) (drop (i + 1) ys)
step_differs xs ys i d lt long e =
    step_at i xs ys i d lt long ∙ ap (λ b. cond b (changes_from (suc i) (drop (i + 1) xs) (drop (i + 1) ys)) (IntChange i (get_or xs i d) (get_or ys i d) ∷ changes_from (suc i) (drop (i + 1) xs) (drop (i + 1) ys))) e
    ∙ ap (λ p. IntChange i (get_or xs i d) (get_or ys i d) ∷ changes_from p (drop (i + 1) xs) (drop (i + 1) ys)) (omega arith)

-- where no place is left
pub all_done : (cs : List Change) (i : ℕ) (xs ys : List ℤ) → length xs ≤ i → cs ++ changes_from i (drop i xs) (drop i ys) ≡ changes_from 0 xs ys → cs ≡ changes_from 0 xs ys
unfolding changes_from
all_done cs i xs ys le e = sym (append-nil cs) ∙ ap (λ t. cs ++ changes_from i t (drop i ys)) (sym (drop_all i xs le)) ∙ e

pub pushed_on : (cs cs' : List Change) (c : Change) (rest : List Change) → cs' ≡ cs ++ c ∷ [] → cs' ++ rest ≡ cs ++ c ∷ rest
pushed_on cs cs' c rest e = ap (λ t. t ++ rest) e ∙ moved cs
  where
    moved : (cs : List Change) → (cs ++ c ∷ []) ++ rest ≡ cs ++ c ∷ rest
    moved [] = refl
    moved (d ∷ cs) = ap (λ t. d ∷ t) (moved cs)
