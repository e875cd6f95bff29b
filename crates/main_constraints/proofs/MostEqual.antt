-- The greatest number of equal ones, as a list grows.
use Rattle.std.proofs.Common.{◌≡◌, ℕ, ◌+◌, ◌<◌, ◌≤◌, max, nat_cmp, ℤ, pos, inl, inr, List, [], ◌∷◌, ◌++◌, length, get_or, take, map, ap, ◌∙◌, sym, arith}
use Rattle.std.specs.Ordering.{int_eq, ord_max}
use Rattle.std.proofs.lemmas.Bool.{cases_Bool, cond-true, cond-false}
use Rattle.std.proofs.lemmas.Bool.Decides.{nat_tests}
use Rattle.std.proofs.lemmas.List.{take_more}
use Rattle.cbl_base.specs.Counts.{count_of}
use Rattle.cbl_base.proofs.SetLemmas.{int_eq-itself, int_eq-true}
use Rattle.cbl_base.proofs.CountLemmas.{one_at, count_of-cons, count_of-append, count_of-le-length}
use Rattle.main_constraints.specs.AllEqual.{greatest, most_equal}

-- the greatest count, in one list, of the numbers of another
abbrev pub most_of : List ℤ → List ℤ → ℕ
most_of ys xs = greatest (map (λ x. count_of x xs) ys)

most_of-le-length : (xs ys : List ℤ) → most_of ys xs ≤ length xs
most_of-le-length xs [] = omega arith
most_of-le-length xs (y ∷ ys) = omega (arith, most_of-le-length xs ys, count_of-le-length y xs)

-- the numbers of a list stand there no oftener than it has places
pub most_equal-le-length : (xs : List ℤ) → most_equal xs ≤ length xs
most_equal-le-length xs = most_of-le-length xs xs

most_of-append : (ys zs xs : List ℤ) → most_of (ys ++ zs) xs ≡ max (most_of ys xs) (most_of zs xs)
most_of-append [] zs xs = omega arith
most_of-append (y ∷ ys) zs xs = omega (arith, most_of-append ys zs xs)

-- one more number counts for itself alone
count_of-push : (v x : ℤ) (xs : List ℤ) → count_of v (xs ++ x ∷ []) ≡ count_of v xs + one_at v x
count_of-push v x xs = omega (arith, count_of-append v xs (x ∷ []), count_of-cons v x [])

one_at-itself : (x : ℤ) → one_at x x ≡ 1
one_at-itself x = cond-true {A = ℕ} (int_eq x x) 1 0 (int_eq-itself x)

-- with one more number of the list, no count falls, and none rises above that of the number
record IsRisen (before after more : ℕ) : Type 0 where
  low : before ≤ after
  high : after ≤ max before more

one_risen : (y x : ℤ) (xs : List ℤ) → IsRisen (count_of y xs) (count_of y (xs ++ x ∷ [])) (count_of x xs + 1)
one_risen y x xs =
    elim (cases_Bool (int_eq x y)) [
      | inl same ↦
          let e : count_of x xs ≡ count_of y xs = ap (λ z. count_of z xs) (int_eq-true x y same) in
          let one = cond-true {A = ℕ} (int_eq x y) 1 0 same in
          record { low = omega (arith, count_of-push y x xs, one, e); high = omega (arith, count_of-push y x xs, one, e) }
      | inr other ↦
          let none = cond-false {A = ℕ} (int_eq x y) 1 0 other in
          record { low = omega (arith, count_of-push y x xs, none); high = omega (arith, count_of-push y x xs, none) }
    ]

most_risen : (ys : List ℤ) (x : ℤ) (xs : List ℤ) → IsRisen (most_of ys xs) (most_of ys (xs ++ x ∷ [])) (count_of x xs + 1)
most_risen [] x xs = record { low = omega arith; high = omega arith }
most_risen (y ∷ ys) x xs =
    let here = one_risen y x xs in
    let there = most_risen ys x xs in
    record { low = omega (arith, here, there); high = omega (arith, here, there) }

pub most_equal-push : (xs : List ℤ) (x : ℤ) → most_equal (xs ++ x ∷ []) ≡ max (most_equal xs) (count_of x xs + 1)
most_equal-push xs x =
    let risen = most_risen xs x xs in
    let whole = most_of-append xs (x ∷ []) (xs ++ x ∷ []) in
    let itself : count_of x (xs ++ x ∷ []) ≡ count_of x xs + 1 = count_of-push x x xs ∙ ap (λ n. count_of x xs + n) (one_at-itself x) in
    omega (arith, risen, whole, itself)

-- a loop's step
pub record IsNext (xs : List ℤ) (i : ℕ) (seen : List ℤ) (most : ℕ) : Type 0 where
  pub seen_is : seen ≡ take i xs
  pub most_is : most ≡ most_equal (take i xs)

max_is : (a b : ℕ) → ord_max nat_cmp a b ≡ max a b
max_is a b = grind (arith, nat_tests)

pub next : (xs seen pushed : List ℤ) (i most before greater : ℕ) (x : ℤ) → i < length xs → x ≡ get_or xs i (pos 0)
    → seen ≡ take i xs → most ≡ most_equal (take i xs)
    → pushed ≡ seen ++ x ∷ [] → before ≡ count_of x seen → greater ≡ ord_max nat_cmp most (before + 1)
    → IsNext xs (i + 1) pushed greater
next xs seen pushed i most before greater x lt at seen_is most_is push_is before_is greater_is =
    let more = take_more xs i (pos 0) lt in
    let grown = most_equal-push (take i xs) (get_or xs i (pos 0)) in
    let times : before ≡ count_of (get_or xs i (pos 0)) (take i xs) = before_is ∙ ap (λ z. count_of z seen) at ∙ ap (count_of (get_or xs i (pos 0))) seen_is in
    let best = greater_is ∙ max_is most (before + 1) in
    record {
      seen_is = push_is ∙ ap (λ s. s ++ x ∷ []) seen_is ∙ ap (λ z. take i xs ++ z ∷ []) at ∙ sym more;
      most_is = omega (arith, best, times, most_is, grown) ∙ sym (ap most_equal more);
    }
