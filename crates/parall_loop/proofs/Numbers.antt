-- Numbers that rise, and how often a number stands in a list.
use Rattle.std.proofs.Common.{◌≡◌, ◌≢◌, ℕ, ◌+◌, ◌<◌, cond, eqb, eq-eqb, ne_eqb, List, [], ◌∷◌, ◌++◌, length, refl, ap, ◌∙◌, sym, add_assoc, append_assoc, zero-add, arith}
use Rattle.std.specs.List.{AllByRecursion}
use Rattle.iter_claim.specs.Numbers.{times, AllLess}
use Rattle.parall_loop.specs.Runs.{IsRising}
use Rattle.parall_loop.proofs.Schedules.{all_append}

pub all_map : {A : Type 0} (P Q : A → Type 0) → ((x : A) → P x → Q x) → (xs : List A) → AllByRecursion P xs → AllByRecursion Q xs
all_map P Q f [] h = tt
all_map P Q f (x ∷ xs) h = (f x h.0, all_map P Q f xs h.1)

-- what holds of each element, whatever stands before and behind it
pub all_splits : {A : Type 0} (P : A → Type 0) (front xs : List A) → ((before : List A) (x : A) (after : List A) → front ++ xs ≡ before ++ x ∷ after → P x) → AllByRecursion P xs
all_splits P front [] h = tt
all_splits P front (x ∷ xs) h = (
  h front x xs refl,
  all_splits P (front ++ x ∷ []) xs (λ before y after is. h before y after (sym (append_assoc front (x ∷ []) xs) ∙ is)),
)

pub times_append : (k : ℕ) (xs ys : List ℕ) → times k (xs ++ ys) ≡ times k xs + times k ys
times_append k [] ys = sym (zero-add (times k ys))
times_append k (x ∷ xs) ys = ap (λ n. cond (eqb x k) 1 0 + n) (times_append k xs ys) ∙ sym (add_assoc (cond (eqb x k) 1 0) (times k xs) (times k ys))

pub times_here : (k x : ℕ) (xs : List ℕ) → x ≡ k → times k (x ∷ xs) ≡ 1 + times k xs
times_here k x xs is = ap (λ b. cond b 1 0 + times k xs) (eq-eqb x k is)

pub times_else : (k x : ℕ) (xs : List ℕ) → x ≢ k → times k (x ∷ xs) ≡ times k xs
times_else k x xs ne = ap (λ b. cond b 1 0 + times k xs) (ne_eqb x k ne) ∙ zero-add (times k xs)

pub rising_push : (xs : List ℕ) (k : ℕ) → IsRising xs → AllLess k xs → IsRising (xs ++ k ∷ [])
rising_push [] k rising less = (tt, tt)
rising_push (x ∷ xs) k rising less = (all_append (λ y. x < y) xs (k ∷ []) rising.0 (less.0, tt), rising_push xs k rising.1 less.1)

pub less_push : (n : ℕ) (xs : List ℕ) (k : ℕ) → AllLess n xs → k < n → AllLess n (xs ++ k ∷ [])
less_push n [] k less small = (small, tt)
less_push n (x ∷ xs) k less small = (less.0, less_push n xs k less.1 small)

-- rising numbers above y and below n are so few
pub rising_room : (y n : ℕ) (xs : List ℕ) → y < n → AllByRecursion (λ z. y < z) xs → AllLess n xs → IsRising xs → y + length xs < n
rising_room y n [] small above less rising = omega arith
rising_room y n (x ∷ xs) small above less rising = let h : x + length xs < n = rising_room x n xs less.0 rising.0 less.1 rising.1 in let a : y < x = above.0 in omega arith
