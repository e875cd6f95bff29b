-- The products of a knapsack: their sum is its load, and a change of a number is one of its product.
use Rattle.std.proofs.Common.{◌≡◌, ℕ, ◌+◌, ◌-◌, ◌<◌, ◌^◌, Bool, true, false, cond, List, length, get_or, set, map, refl, ap, sym, ◌∙◌, subst, arith, Ok, Err, w64}
use Rattle.std.specs.Prelude.{ℤ, pos, ◌*ℤ◌, ◌-ℤ◌, FitsSigned}
use Rattle.std.specs.List.{range_with_len}
use Rattle.std.proofs.lemmas.Int.{ints}
use Rattle.std.proofs.lemmas.List.{length-set, get_or-set_same, get_or-set_other}
use Rattle.std.proofs.lemmas.List.FromFn.{map-range_with_len_more}
use Rattle.std.proofs.lemmas.Option.{slice_get_within, get_or_from_slice_get}
use Rattle.cbl_base.specs.Arithmetic.{exact, fits_64}
use Rattle.cbl_base.specs.declared.faults.RunFault.TheVariants.{Overflow}
use Rattle.cbl_violations.specs.Fitting.{excess}
use Rattle.cbl_violations.specs.Violations.Knapsack.{part_of_load, knapsack_violations}
use Rattle.cbl_violations.proofs.Runs.{run, fitting, where_fitting}
use Rattle.cbl_violations.proofs.KnapsackRun.{knapsack_fails, knapsack_loaded}
use Rattle.node_base.specs.declared.number_change.NumberChange.{NumberChange}
use Rattle.node_base.specs.NumberChanges.{IsNumberChange, after_number_change}
use Rattle.diff_load_seq.specs.Parts.{Part, number_in, joined, IsSumOf, HasRoom, IsReplaced}
use Rattle.diff_load_seq.specs.Products.{product_of, products, above_capacity}
use Rattle.diff_load_seq.specs.declared.running_sum.RunningSum.{RunningSum}
use Rattle.diff_load_seq.proofs.PartLemmas.{Fits, has_room, sum_replaced, sum_pushed}
use Rattle.diff_load_seq.proofs.LevelLemmas.{signed_from_fits}
use Rattle.diff_load_seq.proofs.PlaceLists.{at_place, length_by_place, set_by_place}
use Rattle.diff_load_seq.proofs.JoinLemmas.{run_from_start}

-- ---- the value
pub above_is : (weights : List ℤ) (capacity : ℤ) (xs : List ℤ) → above_capacity (joined (products weights xs)) capacity ≡ knapsack_violations weights capacity xs
above_is weights capacity xs = by_load (joined (products weights xs)) (run_from_start (λ k. fits_64 (part_of_load weights xs k)) (part_of_load weights xs) (length xs))
  where
    by_load : (r : Part) → run (λ k. fitting (λ z. z) (part_of_load weights xs k)) (pos 0) 0 (length xs - 0) ≡ r → above_capacity r capacity ≡ knapsack_violations weights capacity xs
    by_load (Ok load) e = where_fitting excess (load -ℤ capacity) ∙ knapsack_loaded weights capacity xs load e
    by_load (Err fault) e = knapsack_fails weights capacity xs fault e

-- ---- a product fits
pub product_fits : (z : ℤ) → Fits (exact z)
product_fits z = by_test (fits_64 z) (signed_from_fits z)
  where
    by_test : (b : Bool) → (b ≡ true → FitsSigned w64 z) → FitsSigned w64 (number_in (cond b (Ok z) (Err Overflow)))
    by_test true h = h refl
    by_test false h = omega (arith, ints)

-- ---- one change
module _ (weights xs : List ℤ) (c : NumberChange) (is : IsNumberChange xs c) where
  pub change_within : c.place < length xs
  change_within = slice_get_within xs c.place c.old is

  product_there : get_or (products weights xs) c.place (Ok (pos 0)) ≡ product_of weights c.place c.old
  product_there = at_place (Ok (pos 0)) (length xs) (λ k. product_of weights k (get_or xs k (pos 0))) c.place change_within
      ∙ ap (product_of weights c.place) (get_or_from_slice_get xs c.place c.old (pos 0) is)

  length_products : (ys : List ℤ) → length (products weights ys) ≡ length ys
  length_products ys = length_by_place (Ok (pos 0)) (length ys) (λ k. product_of weights k (get_or ys k (pos 0)))

  product_set : set (products weights xs) c.place (product_of weights c.place c.new) ≡ products weights (after_number_change xs c)
  product_set =
      set_by_place (Ok (pos 0)) (length xs) (λ k. product_of weights k (get_or xs k (pos 0))) (λ k. product_of weights k (get_or (after_number_change xs c) k (pos 0))) c.place (product_of weights c.place c.new) change_within
      (ap (product_of weights c.place) (sym (get_or-set_same xs c.place c.new (pos 0) change_within)))
      (λ q apart. ap (product_of weights q) (sym (get_or-set_other xs c.place q c.new (pos 0) apart)))
      ∙ ap (λ n. map (λ k. product_of weights k (get_or (after_number_change xs c) k (pos 0))) (range_with_len 0 n)) (sym (length-set xs c.place c.new))

  pub load_room : (load : RunningSum) → IsSumOf load (products weights xs) → HasRoom load (product_of weights c.place c.old)
  load_room load kept = has_room load (products weights xs) c.place (Ok (pos 0)) (product_of weights c.place c.old) kept
      (subst (λ n. c.place < n) (sym (length_products xs)) change_within) product_there

  pub load_moved : (load after : RunningSum) → IsSumOf load (products weights xs) → IsReplaced load (product_of weights c.place c.old) (product_of weights c.place c.new) after
      → IsSumOf after (products weights (after_number_change xs c))
  load_moved load after kept by = subst (IsSumOf after) product_set
      (sum_replaced load after (products weights xs) c.place (Ok (pos 0)) (product_of weights c.place c.old) (product_of weights c.place c.new) kept
      (subst (λ n. c.place < n) (sym (length_products xs)) change_within) product_there (product_fits (get_or weights c.place (pos 0) *ℤ c.new)) by)

-- ---- the first products
abbrev pub first_products : List ℤ → List ℤ → ℕ → List Part
first_products weights xs n = map (λ k. product_of weights k (get_or xs k (pos 0))) (range_with_len 0 n)

pub load_more : (weights xs : List ℤ) (load after : RunningSum) (k : ℕ) → k + 1 < 2 ^ 63 → IsSumOf load (first_products weights xs k)
    → IsReplaced load (Ok (pos 0)) (product_of weights k (get_or xs k (pos 0))) after → IsSumOf after (first_products weights xs (k + 1))
load_more weights xs load after k few kept by =
    let n = length_by_place (Ok (pos 0)) k (λ k. product_of weights k (get_or xs k (pos 0))) in
    subst (IsSumOf after) (sym (map-range_with_len_more (λ k. product_of weights k (get_or xs k (pos 0))) 0 k k (omega arith)))
    (sum_pushed load after (first_products weights xs k) (product_of weights k (get_or xs k (pos 0))) kept (omega (arith, few, n)) (product_fits (get_or weights k (pos 0) *ℤ get_or xs k (pos 0))) by)
