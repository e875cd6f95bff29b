-- The repeats of a list, as it changes, and that they are the violations of all different.
use Rattle.std.proofs.Common.{◌≡◌, ℕ, ◌+◌, ◌-◌, ◌<◌, ◌≤◌, ◌^◌, ℤ, pos, List, [], ◌∷◌, ◌++◌, length, refl, ap, sym, ◌∙◌, arith, min, get_or, to_z, w64}
use Rattle.std.specs.Prelude.{sum_by, Ok}
use Rattle.std.specs.List.{remove}
use Rattle.std.proofs.lemmas.Int.{to_z_pos}
use Rattle.std.proofs.lemmas.List.{get_or_default}
use Rattle.std.proofs.lemmas.List.Sums.{sum_by-cons}
use Rattle.cbl_base.specs.Arithmetic.{exact}
use Rattle.cbl_base.specs.Counts.{count_of, values_in}
use Rattle.cbl_base.proofs.CountLemmas.{count_of-cons, count_of-append, member_from_count, count_of-values_in}
use Rattle.cbl_base.proofs.SetLemmas.{int_eq-false}
use Rattle.std.proofs.lemmas.Bool.Decides.{nat_tests}
use Rattle.cbl_base.proofs.TotalLemmas.{total_by-pos}
use Rattle.cbl_violations.specs.Violations.AllDifferent.{all_different_violations, all_different_violation_at}
use Rattle.node_base.specs.declared.number_change.NumberChange.{NumberChange}
use Rattle.node_base.specs.declared.tally.Elsewhere.{Elsewhere}
use Rattle.node_base.specs.NumberChanges.{after_number_change, IsNumberChange}
use Rattle.node_base.specs.Counting.{IsElsewhere}
use Rattle.node_base.proofs.TallyLemmas.{one_at-itself, count_before, count_after}
use Rattle.node_base.proofs.ValueSums.{one_at-other, sum_same, sum_at_value}
use Rattle.diff_global.specs.Repeats.{repeats}

-- each number of the list is once among the values
Covers : List ℤ → List ℤ → Type 0
Covers D xs = (v : ℤ) → 0 < count_of v xs → count_of v D ≡ 1

extra : List ℤ → ℤ → ℕ
extra xs v = count_of v xs - 1

none_extra : (D : List ℤ) → sum_by (extra []) D ≡ 0
unfolding extra
none_extra [] = refl
none_extra (v ∷ D) = omega (arith, sum_by-cons (extra []) v D, none_extra D)

-- over any values that cover the list
repeats_over : (D xs : List ℤ) → Covers D xs → sum_by (extra xs) D ≡ repeats xs
unfolding extra Covers
repeats_over D [] cover = none_extra D
repeats_over D (x ∷ xs) cover =
    let here = count_of-cons x x xs ∙ ap (λ n. n + count_of x xs) (one_at-itself x) in
    let once = cover x (omega (arith, here)) in
    let later = repeats_over D xs (λ v some. cover v (omega (arith, count_of-cons v x xs, some))) in
    let step = sum_at_value (extra xs) (extra (x ∷ xs)) x (λ v ne. ap (λ n. n - 1) (other v x xs ne)) D once in
    omega (arith, step, later, here)
  where
    other : (v x : ℤ) (xs : List ℤ) → (v ≡ x → ⊥) → count_of v (x ∷ xs) ≡ count_of v xs
    other v x xs ne = let none = one_at-other v x (int_eq-false x v (λ e. ne (sym e))) in omega (arith, count_of-cons v x xs, none)

covers_itself : (xs : List ℤ) → Covers (values_in xs) xs
unfolding Covers
covers_itself xs v some = count_of-values_in v xs (member_from_count v xs some)

repeats_are : (xs : List ℤ) → sum_by (extra xs) (values_in xs) ≡ repeats xs
repeats_are xs = repeats_over (values_in xs) xs (covers_itself xs)

-- they depend on the counts alone
pub repeats_same : (xs ys : List ℤ) → ((v : ℤ) → count_of v xs ≡ count_of v ys) → repeats xs ≡ repeats ys
unfolding extra Covers
repeats_same xs ys same =
    sym (repeats_are xs) ∙ sum_same (extra ys) (extra xs) (λ v. ap (λ n. n - 1) (same v)) (values_in xs)
    ∙ repeats_over (values_in xs) ys (λ v some. covers_itself xs v (omega (arith, same v, some)))

pub repeats-le-length : (xs : List ℤ) → repeats xs ≤ length xs
repeats-le-length [] = omega arith
repeats-le-length (x ∷ xs) = omega (arith, repeats-le-length xs)

-- one more number at the end
pub repeats-push : (xs : List ℤ) (y : ℤ) → repeats (xs ++ y ∷ []) ≡ repeats xs + min 1 (count_of y xs)
repeats-push xs y =
    let all = repeats_same (xs ++ y ∷ []) (y ∷ xs) (λ v. omega (arith, count_of-append v xs (y ∷ []), count_of-cons v y [], count_of-cons v y xs)) in
    omega (arith, all)

-- at a change of what stands there, where the other places are counted
module _ (xs : List ℤ) (c : NumberChange) (e : Elsewhere) (h : IsNumberChange xs c) (is : IsElsewhere xs c e) where
  others : List ℤ
  others = remove xs c.place

  before : repeats xs ≡ min 1 e.old + repeats others
  unfolding others
  before =
      let all = repeats_same xs (c.old ∷ others) (λ v. omega (arith, count_before xs c h v, count_of-cons v c.old others)) in
      omega (arith, all, is.old)

  after : repeats (after_number_change xs c) ≡ min 1 e.new + repeats others
  unfolding others
  after =
      let all = repeats_same (after_number_change xs c) (c.new ∷ others) (λ v. omega (arith, count_after xs c h v, count_of-cons v c.new others)) in
      omega (arith, all, is.new)

  pub old_repeats : min 1 e.old ≤ repeats xs
  old_repeats = omega (arith, before)

  pub repeats_change : repeats (after_number_change xs c) + min 1 e.old ≡ repeats xs + min 1 e.new
  repeats_change = omega (arith, before, after)

-- the violations of all different
pub violations_are_repeats : (xs : List ℤ) → length xs < 2 ^ 62 → all_different_violations xs ≡ Ok (pos (repeats xs))
unfolding all_different_violations extra
violations_are_repeats xs few =
    ap exact (total_by-pos (extra xs) (values_in xs) ∙ ap pos (repeats_are xs)) ∙ fits (repeats xs) (omega (arith, repeats-le-length xs, few))
  where
    fits : (n : ℕ) → n < 2 ^ 63 → exact (pos n) ≡ Ok (pos n)
    fits n lt = grind (arith, nat_tests)

-- as a number of 64 bits
pub violations_fit : (xs : List ℤ) (n : ℕ) → n ≡ repeats xs → length xs < 2 ^ 62 → n < 2 ^ 63
violations_fit xs n e few = omega (arith, repeats-le-length xs, e, few)

pub violations_as : (xs : List ℤ) (n : ℕ) → n ≡ repeats xs → length xs < 2 ^ 62 → Ok (to_z w64 n) ≡ all_different_violations xs
violations_as xs n e few = ap Ok (to_z_pos w64 n (violations_fit xs n e few) ∙ ap pos e) ∙ sym (violations_are_repeats xs few)

-- the violation at a place, by what was read
module _ (xs : List ℤ) (p n : ℕ) (v : ℤ) (lt : p < length xs) (at : v ≡ get_or xs p v) (times : n ≡ count_of v xs) where
  times_there : n ≡ count_of (get_or xs p (pos 0)) xs
  times_there = times ∙ ap (λ x. count_of x xs) (at ∙ get_or_default xs p v (pos 0) lt)

  pub violation_repeated : 2 ≤ n → pos 1 ≡ all_different_violation_at xs p
  unfolding all_different_violation_at
  violation_repeated many = let there = times_there in grind (arith, nat_tests)

  pub violation_once : n < 2 → pos 0 ≡ all_different_violation_at xs p
  unfolding all_different_violation_at
  violation_once few = let there = times_there in grind (arith, nat_tests)
