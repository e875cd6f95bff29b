-- The totals of a list that has one value more or less often, and how far they go.
use Rattle.std.proofs.Common.{◌≡◌, ◌≢◌, ℕ, zero, suc, ◌+◌, ◌-◌, ◌*◌, ◌^◌, ◌<◌, ◌≤◌, ℤ, pos, ◌+ℤ◌, ◌-ℤ◌, ◌≤ℤ◌, Bool, true, false, cond, ◌⊎◌, inl, inr, List, [], ◌∷◌, ◌++◌, length, get_or, take, refl, ap, sym, ◌∙◌, arith, w64}
use Rattle.std.specs.Prelude.{sum_by, FitsSigned, Some, None, unsigned_abs}
use Rattle.std.specs.List.{range_with_len}
use Rattle.std.proofs.lemmas.Int.{ints, clamps}
use Rattle.std.proofs.lemmas.List.Elements.{All-get_or}
use Rattle.std.proofs.lemmas.List.Sums.{sum_by-cons}
use Rattle.cbl_base.specs.Arithmetic.{fits_64}
use Rattle.cbl_base.specs.Counts.{count_of}
use Rattle.cbl_base.specs.Totals.{total_by}
use Rattle.std.specs.List.{remove}
use Rattle.cbl_base.proofs.TotalLemmas.{total_by-pos, total_by-append}
use Rattle.std.proofs.lemmas.List.{take_more}
use Rattle.cbl_base.proofs.CountLemmas.{one_at, count_of-cons, count_of-append, count_of-le-length}
use Rattle.cbl_base.proofs.SetLemmas.{int_eq-false}
use Rattle.node_base.specs.declared.number_change.NumberChange.{NumberChange}
use Rattle.node_base.specs.declared.tally.Elsewhere.{Elsewhere}
use Rattle.node_base.specs.NumberChanges.{after_number_change, IsNumberChange}
use Rattle.node_base.specs.Counting.{IsElsewhere}
use Rattle.node_base.proofs.TallyLemmas.{one_at-itself, count_before, count_after, old_elsewhere, new_elsewhere, elsewhere-le}
use Rattle.cbl_violations.specs.Bounds.{bound_of}
use Rattle.cbl_violations.proofs.BoundLemmas.{has_bound, bound_at}
use Rattle.node_base.proofs.ValueSums.{one_at-other, total_same, total_at_index, sum_range_same, sum_at_index}
use Rattle.diff_global.specs.declared.cardinality.Demand.{Demand}
use Rattle.diff_global.specs.declared.cardinality.Demand.TheVariants.{AtMost, AtLeast, Exactly}
use Rattle.diff_global.specs.declared.cardinality.Totals.{Totals}
use Rattle.diff_global.specs.Differences.{differs_by, part, misfit}
use Rattle.diff_global.specs.CardinalityTotals.{difference_at, AreTotals, IsShifted, AreBounds, AreRoomy}

-- one of the parts of a sum
part-le-sum : (h : ℕ → ℕ) (j a n : ℕ) → a ≤ j → j < a + n → h j ≤ sum_by h (range_with_len a n)
part-le-sum h j a zero low high = absurd (omega arith)
part-le-sum h j a (suc n) low high =
    let cases : (a ≡ j) ⊎ (a + 1 ≤ j) = grind arith in
    elim cases [
      | inl same ↦ let here = ap h same in omega (arith, sum_by-cons h a (range_with_len (a + 1) n), here)
      | inr above ↦ omega (arith, sum_by-cons h a (range_with_len (a + 1) n), part-le-sum h j (a + 1) n above (omega arith))
    ]

-- ---- one value more or less often
module _ (demand : Demand) (low : ℤ) (bounds xs ys : List ℤ) (value : ℤ) (before after : ℕ) (shifted : IsShifted xs ys value before after) where
  same_at : (k : ℕ) → low +ℤ pos k ≢ value → difference_at demand low bounds ys k ≡ difference_at demand low bounds xs k
  same_at k ne = ap (λ n. differs_by demand n (get_or bounds k (pos 0))) (shifted.others (low +ℤ pos k) ne)

  -- where it has no bound
  pub totals_unbounded : (totals : Totals) → bound_of low bounds value ≡ None → AreTotals demand low bounds xs totals → AreTotals demand low bounds ys totals
  totals_unbounded totals none are =
      let same : (k : ℕ) → 0 ≤ k → k < 0 + length bounds → difference_at demand low bounds ys k ≡ difference_at demand low bounds xs k
      = λ k above within. same_at k (λ e. no_bound k (omega arith) (sym (ap (bound_of low bounds) e ∙ none) ∙ bound_at low bounds k (omega arith))) in
      record {
        sum = are.sum ∙ sym (total_same _ _ 0 (length bounds) (λ k above within. ap (part demand) (same k above within)));
        misfits = are.misfits ∙ sym (sum_range_same _ _ 0 (length bounds) (λ k above within. ap misfit (same k above within)));
      }
    where
      no_bound : (k : ℕ) → k < length bounds → None ≡ Some (get_or bounds k (pos 0)) → ⊥
      no_bound k lt e = cc

  -- where it has one
  pub totals_bounded : (totals totals' : Totals) (c : ℤ) → bound_of low bounds value ≡ Some c → AreTotals demand low bounds xs totals
      → totals'.sum ≡ ((totals.sum -ℤ part demand (differs_by demand before c)) +ℤ part demand (differs_by demand after c))
      → totals'.misfits ≡ (totals.misfits - misfit (differs_by demand before c)) + misfit (differs_by demand after c)
      → AreTotals demand low bounds ys totals'
  totals_bounded totals totals' c is are sum misfits =
      let bound = has_bound low bounds value c is in
      let k = bound.k in
      let old : difference_at demand low bounds xs k ≡ differs_by demand before c
      = ap (λ v. differs_by demand (count_of v xs) (get_or bounds k (pos 0))) (sym bound.value) ∙ ap (λ n. differs_by demand n (get_or bounds k (pos 0))) shifted.first ∙ ap (differs_by demand before) bound.bound in
      let new : difference_at demand low bounds ys k ≡ differs_by demand after c
      = ap (λ v. differs_by demand (count_of v ys) (get_or bounds k (pos 0))) (sym bound.value) ∙ ap (λ n. differs_by demand n (get_or bounds k (pos 0))) shifted.second ∙ ap (differs_by demand after) bound.bound in
      let off : (m : ℕ) → m ≢ k → difference_at demand low bounds ys m ≡ difference_at demand low bounds xs m
      = λ m ne. same_at m (λ e. ne (omega (arith, ints, e, bound.value))) in
      let totalled = total_at_index (λ m. part demand (difference_at demand low bounds xs m)) (λ m. part demand (difference_at demand low bounds ys m)) k 0 (length bounds) (omega arith) (omega (arith, bound.within)) (λ m ne. ap (part demand) (off m ne)) in
      let summed = sum_at_index (λ m. misfit (difference_at demand low bounds xs m)) (λ m. misfit (difference_at demand low bounds ys m)) k 0 (length bounds) (omega arith) (omega (arith, bound.within)) (λ m ne. ap misfit (off m ne)) in
      let counted = part-le-sum (λ m. misfit (difference_at demand low bounds xs m)) k 0 (length bounds) (omega arith) (omega (arith, bound.within)) in
      let old_part = ap (part demand) old in
      let new_part = ap (part demand) new in
      let old_misfit = ap misfit old in
      let new_misfit = ap misfit new in
      record {
        sum = omega (arith, ints, sum, are.sum, totalled, old_part, new_part);
        misfits = omega (arith, misfits, are.misfits, summed, counted, old_misfit, new_misfit);
      }

-- ---- lists with one value more or less often
pub shifted_push : (xs : List ℤ) (x : ℤ) (n : ℕ) → n ≡ count_of x xs → IsShifted xs (xs ++ x ∷ []) x n (n + 1)
shifted_push xs x n e = record {
  first = sym e;
  second = omega (arith, e, count_of-append x xs (x ∷ []), count_of-cons x x [], one_at-itself x);
  others = λ v ne. let none = other v x ne in omega (arith, count_of-append v xs (x ∷ []), count_of-cons v x [], none);
}
  where
    other : (v x : ℤ) → v ≢ x → one_at v x ≡ 0
    other v x ne = one_at-other v x (int_eq-false x v (λ e. ne (sym e)))

-- the list at the other places of a change, before it and after it
module _ (xs : List ℤ) (c : NumberChange) (e : Elsewhere) (h : IsNumberChange xs c) (is : IsElsewhere xs c e) where
  other_place : (v x : ℤ) → v ≢ x → one_at v x ≡ 0
  other_place v x ne = one_at-other v x (int_eq-false x v (λ e. ne (sym e)))

  pub shifted_out : IsShifted xs (remove xs c.place) c.old (e.old + 1) e.old
  shifted_out = record {
    first = omega (arith, is.old, old_elsewhere xs c h);
    second = sym is.old;
    others = λ v ne. let none = other_place v c.old ne in omega (arith, count_before xs c h v, none);
  }

  pub shifted_in : IsShifted (remove xs c.place) (after_number_change xs c) c.new e.new (e.new + 1)
  shifted_in = record {
    first = sym is.new;
    second = omega (arith, is.new, new_elsewhere xs c h);
    others = λ v ne. let none = other_place v c.new ne in omega (arith, count_after xs c h v, none);
  }

  pub few_elsewhere : (e.old < length xs + 1) × (e.new < length xs + 1)
  few_elsewhere = (omega (arith, is.old, elsewhere-le xs c h c.old), omega (arith, is.new, elsewhere-le xs c h c.new))

-- ---- how far they go
pub record IsPart (z : ℤ) : Type 0 where
  pub low : pos 0 ≤ℤ z
  pub high : z ≤ℤ pos (2 ^ 64)

pub part_is : (demand : Demand) (times : ℕ) (bound : ℤ) → times < 2 ^ 61 → FitsSigned w64 bound → IsPart (part demand (differs_by demand times bound))
part_is AtMost times bound few fits = record { low = omega (arith, ints, clamps); high = omega (arith, ints, clamps, few, fits) }
part_is AtLeast times bound few fits = record { low = omega (arith, ints, clamps); high = omega (arith, ints, clamps, few, fits) }
part_is Exactly times bound few fits =
    let within : unsigned_abs (pos times -ℤ bound) ≤ 2 ^ 64 = grind (arith, ints, few, fits) in
    record { low = omega (arith, ints); high = omega (arith, ints, within) }

pub misfit-le : (z : ℤ) → misfit z ≤ 1
misfit-le z = by_test (fits_64 z)
  where
    by_test : (b : Bool) → cond {A = ℕ} b 0 1 ≤ 1
    by_test true = omega arith
    by_test false = omega arith

record IsTotal (z : ℤ) (n : ℕ) : Type 0 where
  low : pos 0 ≤ℤ z
  high : z ≤ℤ pos (2 ^ 64 * n)

total_of_parts : (f : ℕ → ℤ) (a n : ℕ) → ((k : ℕ) → a ≤ k → k < a + n → IsPart (f k)) → IsTotal (total_by f (range_with_len a n)) n
total_of_parts f a zero each = record { low = omega (arith, ints); high = omega (arith, ints) }
total_of_parts f a (suc n) each =
    let first = each a (omega arith) (omega arith) in
    let later = total_of_parts f (a + 1) n (λ k low high. each k (omega arith) (omega arith)) in
    record { low = omega (arith, ints, first.low, later.low); high = omega (arith, ints, first.high, later.high) }

sum_of_ones : (f : ℕ → ℕ) (a n : ℕ) → ((k : ℕ) → f k ≤ 1) → sum_by f (range_with_len a n) ≤ n
sum_of_ones f a zero each = omega arith
sum_of_ones f a (suc n) each = omega (arith, each a, sum_of_ones f (a + 1) n each, sum_by-cons f a (range_with_len (a + 1) n))

pub totals_roomy : (demand : Demand) (low : ℤ) (bounds xs : List ℤ) (totals : Totals) → AreTotals demand low bounds xs totals → AreBounds bounds → length xs < 2 ^ 61 → AreRoomy totals
totals_roomy demand low bounds xs totals are fit few =
    let parts = total_of_parts (λ k. part demand (difference_at demand low bounds xs k)) 0 (length bounds) (λ k above within. part_is demand (count_of (low +ℤ pos k) xs) (get_or bounds k (pos 0)) (omega (arith, count_of-le-length (low +ℤ pos k) xs, few)) (All-get_or (λ (z : ℤ). FitsSigned w64 z) bounds k (pos 0) (omega arith) fit.each)) in
    let ones = sum_of_ones (λ k. misfit (difference_at demand low bounds xs k)) 0 (length bounds) (λ k. misfit-le (difference_at demand low bounds xs k)) in
    record {
      low = omega (arith, ints, are.sum, parts.low);
      high = omega (arith, ints, are.sum, parts.high, fit.few);
      misfits = omega (arith, are.misfits, ones, fit.few);
    }

-- ---- the totals of the list with no number, by the bounds one by one
total_by_index : (g : ℤ → ℤ) (bounds : List ℤ) (f : ℕ → ℤ) (a : ℕ) → ((k : ℕ) → k < length bounds → f (a + k) ≡ g (get_or bounds k (pos 0))) → total_by f (range_with_len a (length bounds)) ≡ total_by g bounds
total_by_index g [] f a each = refl
total_by_index g (c ∷ bounds) f a each =
    let first : f a ≡ g c = ap f (omega arith) ∙ each 0 (omega arith) in
    let later = total_by_index g bounds f (a + 1) (λ k lt. ap f (omega arith) ∙ each (k + 1) (omega arith) ∙ ap g (read k)) in
    omega (arith, ints, first, later)
  where
    read : (k : ℕ) → get_or (c ∷ bounds) (k + 1) (pos 0) ≡ get_or bounds k (pos 0)
    read k = ap (λ n. get_or (c ∷ bounds) n (pos 0)) (one_up k)
      where
        one_up : (k : ℕ) → k + 1 ≡ suc k
        one_up k = omega arith

pub none_totals : (demand : Demand) (low : ℤ) (bounds : List ℤ) (totals : Totals)
    → totals.sum ≡ total_by (λ c. part demand (differs_by demand 0 c)) bounds → pos totals.misfits ≡ total_by (λ c. pos (misfit (differs_by demand 0 c))) bounds
    → AreTotals demand low bounds [] totals
none_totals demand low bounds totals sum misfits =
    let misfit_total = total_by_index (λ c. pos (misfit (differs_by demand 0 c))) bounds (λ k. pos (misfit (difference_at demand low bounds [] k))) 0 (λ k lt. ap (λ n. pos (misfit (difference_at demand low bounds [] n))) (omega arith)) in
    let as_sum = total_by-pos (λ k. misfit (difference_at demand low bounds [] k)) (range_with_len 0 (length bounds)) in
    record {
      sum = sum ∙ sym (total_by_index (λ c. part demand (differs_by demand 0 c)) bounds (λ k. part demand (difference_at demand low bounds [] k)) 0 (λ k lt. ap (λ n. part demand (difference_at demand low bounds [] n)) (omega arith)));
      misfits = omega (arith, ints, misfits, misfit_total, as_sum);
    }

-- a loop's step
pub total_by-more : (g : ℤ → ℤ) (xs : List ℤ) (i : ℕ) → i < length xs → total_by g (take (i + 1) xs) ≡ total_by g (take i xs) +ℤ g (get_or xs i (pos 0))
total_by-more g xs i lt = ap (total_by g) (take_more xs i (pos 0) lt) ∙ total_by-append g (take i xs) (get_or xs i (pos 0) ∷ []) ∙ omega (arith, ints)
