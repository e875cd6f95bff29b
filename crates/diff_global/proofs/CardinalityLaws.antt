-- The totals give the violations of at most, at least and exactly, and those at a place.
use Rattle.std.proofs.Common.{◌≡◌, ℕ, ◌+◌, ◌<◌, ℤ, pos, ◌+ℤ◌, Bool, true, false, not, ◌&&◌, cond, List, [], ◌∷◌, ◌++◌, length, get_or, map, refl, ap, sym, ◌∙◌, subst, arith}
use Rattle.std.specs.Prelude.{sum_by, Option, Result, Ok, Err, IsOk, nat_eq, int_lt, if◌then◌else◌}
use Rattle.std.specs.Option.{option_map}
use Rattle.std.specs.List.{list_all, range_with_len}
use Rattle.std.specs.Ordering.{int_eq}
use Rattle.std.proofs.lemmas.Bool.Decides.{nat_tests}
use Rattle.std.proofs.lemmas.List.{get_or_default}
use Rattle.std.proofs.lemmas.List.Sums.{sum_by-cons}
use Rattle.cbl_base.specs.Arithmetic.{exact, fits_64}
use Rattle.cbl_base.specs.Counts.{count_of}
use Rattle.cbl_base.specs.Totals.{total_by}
use Rattle.cbl_base.specs.declared.faults.RunFault.{RunFault}
use Rattle.cbl_base.specs.declared.faults.RunFault.TheVariants.{Overflow}
use Rattle.cbl_violations.specs.Bounds.{bound_of}
use Rattle.cbl_violations.specs.Fitting.{where_all_fit, each_below}
use Rattle.cbl_violations.specs.Violations.AtLeast.{at_least_violations, at_least_violation_at, is_violated}
use Rattle.cbl_violations.specs.Violations.AtMost.{at_most_violations, at_most_violation_at, is_over}
use Rattle.cbl_violations.specs.Violations.Exactly.{exactly_violations, exactly_violation_at}
use Rattle.diff_global.specs.declared.cardinality.Demand.{Demand}
use Rattle.diff_global.specs.declared.cardinality.Demand.TheVariants.{AtMost, AtLeast, Exactly}
use Rattle.diff_global.specs.declared.cardinality.Totals.{Totals}
use Rattle.diff_global.specs.CardinalityTotals.{difference_at, AreTotals}
use Rattle.diff_global.specs.Differences.{part, misfit, counts_at}
use Rattle.diff_global.specs.NumberRules.{cardinality_violations, cardinality_violation_at}

-- ---- the violations
differences : Demand → ℤ → List ℤ → List ℤ → List ℤ
differences demand low bounds xs = each_below (length bounds) (difference_at demand low bounds xs)

violations_of_parts : (demand : Demand) (low : ℤ) (bounds xs : List ℤ) → cardinality_violations demand low bounds xs ≡ where_all_fit (differences demand low bounds xs ++ total_by (part demand) (differences demand low bounds xs) ∷ []) (total_by (part demand) (differences demand low bounds xs))
unfolding differences at_most_violations at_least_violations exactly_violations
violations_of_parts AtMost low bounds xs = refl
violations_of_parts AtLeast low bounds xs = refl
violations_of_parts Exactly low bounds xs = refl

total_by-map : (p : ℤ → ℤ) (f : ℕ → ℤ) (ks : List ℕ) → total_by p (map f ks) ≡ total_by (λ k. p (f k)) ks
total_by-map p f [] = refl
total_by-map p f (k ∷ ks) = ap (λ z. p (f k) +ℤ z) (total_by-map p f ks)

all_fit : (f : ℕ → ℤ) (ks : List ℕ) → list_all fits_64 (map f ks) ≡ nat_eq (sum_by (λ k. misfit (f k)) ks) 0
all_fit f [] = refl
all_fit f (k ∷ ks) = by_test (fits_64 (f k)) (all_fit f ks) ∙ ap (λ m. nat_eq m 0) (sym (sum_by-cons (λ k. misfit (f k)) k ks))
  where
    by_test : (b : Bool) → list_all fits_64 (map f ks) ≡ nat_eq (sum_by (λ k. misfit (f k)) ks) 0 → (b && list_all fits_64 (map f ks)) ≡ nat_eq (cond b 0 1 + sum_by (λ k. misfit (f k)) ks) 0
    by_test true later = later ∙ grind (arith, nat_tests)
    by_test false later = grind (arith, nat_tests)

list_all-push : (p : ℤ → Bool) (xs : List ℤ) (y : ℤ) → list_all p (xs ++ y ∷ []) ≡ (list_all p xs && p y)
list_all-push p [] y = by_test (p y)
  where
    by_test : (b : Bool) → (b && true) ≡ b
    by_test true = refl
    by_test false = refl
list_all-push p (x ∷ xs) y = ap (λ b. p x && b) (list_all-push p xs y) ∙ by_test (p x)
  where
    by_test : (b : Bool) → (b && (list_all p xs && p y)) ≡ ((b && list_all p xs) && p y)
    by_test true = refl
    by_test false = refl

where_fit : (S : List ℤ) (z : ℤ) (b : Bool) → list_all fits_64 S ≡ b → where_all_fit (S ++ z ∷ []) z ≡ (if b then exact z else Err Overflow)
where_fit S z b e = ap (λ t. if t then Ok z else Err Overflow) (list_all-push fits_64 S z ∙ ap (λ t. t && fits_64 z) e) ∙ by_test b
  where
    by_test : (b : Bool) → (if (b && fits_64 z) then Ok z else Err Overflow) ≡ (if b then exact z else Err Overflow)
    by_test true = refl
    by_test false = refl

module _ (demand : Demand) (low : ℤ) (bounds xs : List ℤ) (totals : Totals) (are : AreTotals demand low bounds xs totals) where
  pub violations_are : cardinality_violations demand low bounds xs ≡ (if nat_eq totals.misfits 0 then exact totals.sum else Err Overflow)
  unfolding differences
  violations_are =
      violations_of_parts demand low bounds xs
      ∙ where_fit (differences demand low bounds xs) _ (nat_eq totals.misfits 0) (all_fit (difference_at demand low bounds xs) (range_with_len 0 (length bounds)) ∙ ap (λ m. nat_eq m 0) (sym are.misfits))
      ∙ ap (λ z. if nat_eq totals.misfits 0 then exact z else Err Overflow) (total_by-map (part demand) (difference_at demand low bounds xs) (range_with_len 0 (length bounds)) ∙ sym are.sum)

  -- ---- where there is a value
  pub is_violated_by : IsOk (cardinality_violations demand low bounds xs) → is_violated (cardinality_violations demand low bounds xs) ≡ not (int_eq totals.sum (pos 0))
  is_violated_by ok = by_tests (nat_eq totals.misfits 0) (fits_64 totals.sum) (cardinality_violations demand low bounds xs) violations_are ok
    where
      by_tests : (b c : Bool) (v : Result ℤ RunFault) → v ≡ (if b then (if c then Ok totals.sum else Err Overflow) else Err Overflow) → IsOk v → is_violated v ≡ not (int_eq totals.sum (pos 0))
      by_tests true true v e ok = ap is_violated e
      by_tests true false v e ok = cc (subst IsOk e ok)
      by_tests false c v e ok = cc (subst IsOk e ok)

-- ---- at a place
violation_at_is : (demand : Demand) (low : ℤ) (bounds xs : List ℤ) (place : ℕ)
    → cardinality_violation_at demand low bounds xs place
    ≡ (if counts_at demand (is_violated (cardinality_violations demand low bounds xs)) (is_over low bounds xs (get_or xs place (pos 0))) then pos 1 else pos 0)
unfolding at_most_violation_at at_least_violation_at exactly_violation_at
violation_at_is AtMost low bounds xs place = refl
violation_at_is AtLeast low bounds xs place = refl
violation_at_is Exactly low bounds xs place = refl

-- by what was read there
pub violation_read : (demand : Demand) (low : ℤ) (bounds xs : List ℤ) (totals : Totals) (place : ℕ) (v : ℤ) (n : ℕ) (b : Bool) (over : Option Bool)
    → AreTotals demand low bounds xs totals → place < length xs → IsOk (cardinality_violations demand low bounds xs)
    → v ≡ get_or xs place v → n ≡ count_of v xs → over ≡ option_map (λ c. int_lt c (pos n)) (bound_of low bounds v) → b ≡ not (int_eq totals.sum (pos 0))
    → (if counts_at demand b over then pos 1 else pos 0) ≡ cardinality_violation_at demand low bounds xs place
violation_read demand low bounds xs totals place v n b over are lt ok at times is violated =
    let there : v ≡ get_or xs place (pos 0) = at ∙ get_or_default xs place v (pos 0) lt in
    let over_is : over ≡ is_over low bounds xs (get_or xs place (pos 0)) = is ∙ ap (λ m. option_map (λ c. int_lt c (pos m)) (bound_of low bounds v)) times ∙ ap (is_over low bounds xs) there in
    ap (λ t. if counts_at demand t over then pos 1 else pos 0) (violated ∙ sym (is_violated_by demand low bounds xs totals are ok))
    ∙ ap (λ o. if counts_at demand (is_violated (cardinality_violations demand low bounds xs)) o then pos 1 else pos 0) over_is
    ∙ sym (violation_at_is demand low bounds xs place)
