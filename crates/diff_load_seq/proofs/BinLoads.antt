-- The loads of bins: how they change with an item, that they are small, and what they say of the rule.
use Rattle.std.proofs.Common.{◌≡◌, ℕ, zero, suc, ◌+◌, ◌*◌, ◌<◌, ◌^◌, ℤ, pos, neg_ℤ, ◌+ℤ◌, ◌-ℤ◌, ◌≤ℤ◌, Bool, true, false, cond, List, [], ◌∷◌, length, get_or, set, map, refl, ap, sym, ◌∙◌, subst, arith, w64, ◌⊎◌, inl, inr, ◌&&◌, Ok, Err}
use Rattle.std.specs.Prelude.{FitsSigned, IsOk}
use Rattle.std.proofs.lemmas.Bool.{both_ways}
use Rattle.cbl_base.specs.declared.faults.RunFault.TheVariants.{Overflow}
use Rattle.cbl_violations.specs.Bounds.{bound_of}
use Rattle.std.specs.List.{range_with_len}
use Rattle.std.specs.Ordering.{int_eq}
use Rattle.std.proofs.lemmas.Int.{ints}
use Rattle.std.proofs.lemmas.List.{length-set, get_or-set_same, get_or-set_other, length-map, get_or-map}
use Rattle.std.proofs.lemmas.List.FromFn.{map-range_with_len_more}
use Rattle.std.proofs.lemmas.Simd.{map-map}
use Rattle.cbl_base.specs.Arithmetic.{fits_64}
use Rattle.cbl_base.specs.Totals.{total}
use Rattle.cbl_base.proofs.TotalLemmas.{total-set, total-append}
use Rattle.cbl_violations.specs.Fitting.{each_below, excess}
use Rattle.cbl_violations.specs.Violations.MultiKnapsack.{size_in, load_of, overload_at, multi_knapsack_violations, excess_of as violation_of}
use Rattle.cbl_violations.proofs.MultiKnapsackRun.{bin_fits, bins_run, bin_loads_fit}
use Rattle.node_base.specs.declared.number_change.NumberChange.{NumberChange}
use Rattle.node_base.specs.NumberChanges.{IsNumberChange, after_number_change}
use Rattle.diff_load_seq.specs.Parts.{joined, number_in}
use Rattle.diff_load_seq.specs.Levels.{flat, level_at, raised, excess_over, excess_of, excesses, IsRaisable}
use Rattle.diff_load_seq.specs.Bins.{AllFit, load_of_first, bin_of_first, bins_of_first, bins_of, bin_raised, item_moved, IsLow, AreLow}
use Rattle.diff_load_seq.specs.declared.levels.Level.{Level}
use Rattle.diff_load_seq.proofs.PlaceLists.{by_place, at_place, length_by_place, is_by_place, same_by_place, set_by_place}
use Rattle.diff_load_seq.proofs.ProductLemmas.{change_within}
use Rattle.std.proofs.lemmas.Option.{get_or_from_slice_get}
use Rattle.diff_load_seq.proofs.BinPlaces.{HasPlace, bound_found}
use Rattle.diff_load_seq.proofs.JoinLemmas.{run_from_start}

-- ---- loads
-- one more item
load_more : (n : ℕ) (bin : ℤ) (sizes xs : List ℤ) → load_of_first (n + 1) bin sizes xs ≡ (load_of_first n bin sizes xs +ℤ size_in bin sizes xs n)
load_more n bin sizes xs =
    ap total (map-range_with_len_more (size_in bin sizes xs) 0 n n (omega arith))
    ∙ total-append (map (size_in bin sizes xs) (range_with_len 0 n)) (size_in bin sizes xs n ∷ [])
    ∙ omega (arith, ints)

-- one more size has 64 bits
pub all_fit_more : (sizes : List ℤ) (n : ℕ) → AllFit n sizes → FitsSigned w64 (get_or sizes n (pos 0)) → AllFit (n + 1) sizes
all_fit_more sizes n fit size k h = elim (before_or_last k h) [
  | inl lt ↦ fit k lt
  | inr e ↦ subst (λ j. FitsSigned w64 (get_or sizes j (pos 0))) (sym e) size
]
  where
    before_or_last : (k : ℕ) → k < n + 1 → (k < n) ⊎ (k ≡ n)
    before_or_last k h = grind (arith, h)

-- a size has 64 bits
size_bounds : (bin : ℤ) (sizes xs : List ℤ) (k : ℕ) → FitsSigned w64 (get_or sizes k (pos 0)) → (neg_ℤ (pos (2 ^ 63)) ≤ℤ size_in bin sizes xs k) × (size_in bin sizes xs k ≤ℤ pos (2 ^ 63))
size_bounds bin sizes xs k fit = by_test fit (int_eq (get_or xs k (pos 0)) bin)
  where
    by_test : FitsSigned w64 (get_or sizes k (pos 0)) → (b : Bool)
        → (neg_ℤ (pos (2 ^ 63)) ≤ℤ cond b (get_or sizes k (pos 0)) (pos 0)) × (cond b (get_or sizes k (pos 0)) (pos 0) ≤ℤ pos (2 ^ 63))
    by_test f true = (omega (arith, ints, f), omega (arith, ints, f))
    by_test f false = (omega (arith, ints), omega (arith, ints))

load_bounds : (n : ℕ) (bin : ℤ) (sizes xs : List ℤ) → AllFit n sizes
    → (neg_ℤ (pos (2 ^ 63 * n)) ≤ℤ load_of_first n bin sizes xs) × (load_of_first n bin sizes xs ≤ℤ pos (2 ^ 63 * n))
load_bounds zero bin sizes xs fit = (omega (arith, ints), omega (arith, ints))
load_bounds (suc n) bin sizes xs fit =
    let rest = load_bounds n bin sizes xs (λ k h. fit k (omega (arith, h))) in
    let size = size_bounds bin sizes xs n (fit n (omega arith)) in
    let next : suc n ≡ n + 1 = omega arith in
    let more = ap (λ m. load_of_first m bin sizes xs) next ∙ load_more n bin sizes xs in
    (omega (arith, ints, rest.0, size.0, more), omega (arith, ints, rest.1, size.1, more))

-- ---- one more item in its bin
module _ (sizes : List ℤ) (low : ℤ) (capacities xs : List ℤ) where
  pub bins_length : (n : ℕ) → length (bins_of_first n sizes low capacities xs) ≡ length capacities
  bins_length n = length_by_place flat (length capacities) (bin_of_first n sizes low capacities xs)

  pub bin_at : (n k : ℕ) → k < length capacities → level_at (bins_of_first n sizes low capacities xs) k ≡ bin_of_first n sizes low capacities xs k
  bin_at n k h = at_place flat (length capacities) (bin_of_first n sizes low capacities xs) k h

  pub bins_raisable : (n : ℕ) (by : ℤ) → AllFit n sizes → n < 2 ^ 63 → neg_ℤ (pos (2 ^ 63)) ≤ℤ by → by ≤ℤ pos (2 ^ 63)
      → (k : ℕ) → k < length (bins_of_first n sizes low capacities xs) → IsRaisable (level_at (bins_of_first n sizes low capacities xs) k) by
  bins_raisable n by fit few down up k h =
      let within : k < length capacities = omega (arith, h, bins_length n) in
      let b = load_bounds n (low +ℤ pos k) sizes xs fit in
      subst (λ level. IsRaisable level by) (sym (bin_at n k within))
      (record { low = omega (arith, ints, b.0, few); high = omega (arith, ints, b.1, few); down = down; up = up })

  pub bins_low : (n : ℕ) → AllFit n sizes → n < 2 ^ 63 → AreLow (bins_of_first n sizes low capacities xs)
  bins_low n fit few k h =
      let within : k < length capacities = omega (arith, h, bins_length n) in
      let b = load_bounds n (low +ℤ pos k) sizes xs fit in
      subst IsLow (sym (bin_at n k within)) (record { low = omega (arith, ints, b.0, few); high = omega (arith, ints, b.1, few) })

  pub bins_more : (n : ℕ) → bin_raised low (get_or xs n (pos 0)) (get_or sizes n (pos 0)) (bins_of_first n sizes low capacities xs) ≡ bins_of_first (n + 1) sizes low capacities xs
  bins_more n =
      let bins = bins_of_first n sizes low capacities xs in
      let x = get_or xs n (pos 0) in
      let s = get_or sizes n (pos 0) in
      ap (λ m. by_place m (λ k. cond (int_eq x (low +ℤ pos k)) (raised s (level_at bins k)) (level_at bins k))) (bins_length n)
      ∙ same_by_place flat (length capacities) (λ k. cond (int_eq x (low +ℤ pos k)) (raised s (level_at bins k)) (level_at bins k)) (bin_of_first (n + 1) sizes low capacities xs)
      (λ k h. ap (λ level. cond (int_eq x (low +ℤ pos k)) (raised s level) level) (bin_at n k h)
      ∙ by_test k (int_eq x (low +ℤ pos k))
      ∙ ap (λ z. record { height = z; limit = get_or capacities k (pos 0) }) (sym (load_more n (low +ℤ pos k) sizes xs)))
    where
      by_test : (k : ℕ) (b : Bool) → cond b (raised (get_or sizes n (pos 0)) (bin_of_first n sizes low capacities xs k)) (bin_of_first n sizes low capacities xs k)
          ≡ record { height = load_of_first n (low +ℤ pos k) sizes xs +ℤ cond b (get_or sizes n (pos 0)) (pos 0); limit = get_or capacities k (pos 0) }
      by_test k true = refl
      by_test k false = ap (λ z. record { height = z; limit = get_or capacities k (pos 0) }) (nothing (load_of_first n (low +ℤ pos k) sizes xs))
        where
          nothing : (z : ℤ) → z ≡ (z +ℤ pos 0)
          nothing z = omega (arith, ints)

  -- bins in which nothing is yet
  pub bins_emptied : map (λ capacity. record { height = pos 0; limit = capacity }) capacities ≡ bins_of_first 0 sizes low capacities xs
  bins_emptied = is_by_place flat (map (λ (capacity : ℤ). record { height = pos 0; limit = capacity }) capacities) (length capacities) (bin_of_first 0 sizes low capacities xs)
      (length-map capacities (λ (capacity : ℤ). record { height = pos 0; limit = capacity }))
      (λ k h. get_or-map (λ (capacity : ℤ). record { height = pos 0; limit = capacity }) capacities k (pos 0) flat h)

pub raised_raisable : (levels : List Level) (low bin first by : ℤ) → AreLow levels → neg_ℤ (pos (2 ^ 63)) ≤ℤ first → first ≤ℤ pos (2 ^ 63) → neg_ℤ (pos (2 ^ 63)) ≤ℤ by → by ≤ℤ pos (2 ^ 63)
    → (k : ℕ) → k < length (bin_raised low bin first levels) → IsRaisable (level_at (bin_raised low bin first levels) k) by
raised_raisable levels low bin first by are first_down first_up down up k h =
    let same : length (bin_raised low bin first levels) ≡ length levels = length_by_place flat (length levels) (λ k. cond (int_eq bin (low +ℤ pos k)) (raised first (level_at levels k)) (level_at levels k)) in
    let inside : k < length levels = omega (arith, h, same) in
    subst (λ level. IsRaisable level by) (sym (at_place flat (length levels) (λ k. cond (int_eq bin (low +ℤ pos k)) (raised first (level_at levels k)) (level_at levels k)) k inside))
    (by_test (are k inside) (int_eq bin (low +ℤ pos k)))
  where
    by_test : IsLow (level_at levels k) → (b : Bool) → IsRaisable (cond b (raised first (level_at levels k)) (level_at levels k)) by
    by_test is true = record { low = omega (arith, ints, is.low, first_down); high = omega (arith, ints, is.high, first_up); down = down; up = up }
    by_test is false = record { low = omega (arith, ints, is.low); high = omega (arith, ints, is.high); down = down; up = up }

-- ---- one item goes to another bin
module _ (sizes : List ℤ) (low : ℤ) (capacities xs : List ℤ) (c : NumberChange) (is : IsNumberChange xs c) where
  -- the sizes of a bin's items, of which one is another
  size_set : (bin : ℤ) → set (each_below (length xs) (size_in bin sizes xs)) c.place (cond (int_eq c.new bin) (get_or sizes c.place (pos 0)) (pos 0))
      ≡ each_below (length xs) (size_in bin sizes (after_number_change xs c))
  size_set bin = set_by_place (pos 0) (length xs) (size_in bin sizes xs) (size_in bin sizes (after_number_change xs c)) c.place (cond (int_eq c.new bin) (get_or sizes c.place (pos 0)) (pos 0))
      (change_within sizes xs c is)
      (ap (λ x. cond (int_eq x bin) (get_or sizes c.place (pos 0)) (pos 0)) (sym (get_or-set_same xs c.place c.new (pos 0) (change_within sizes xs c is))))
      (λ q apart. ap (λ x. cond (int_eq x bin) (get_or sizes q (pos 0)) (pos 0)) (sym (get_or-set_other xs c.place q c.new (pos 0) apart)))

  load_moved : (bin : ℤ) → load_of bin sizes (after_number_change xs c)
      ≡ ((load_of bin sizes xs -ℤ cond (int_eq c.old bin) (get_or sizes c.place (pos 0)) (pos 0)) +ℤ cond (int_eq c.new bin) (get_or sizes c.place (pos 0)) (pos 0))
  load_moved bin =
      let within = change_within sizes xs c is in
      let n : length (after_number_change xs c) ≡ length xs = length-set xs c.place c.new in
      let there : get_or (each_below (length xs) (size_in bin sizes xs)) c.place (pos 0) ≡ cond (int_eq c.old bin) (get_or sizes c.place (pos 0)) (pos 0)
      = at_place (pos 0) (length xs) (size_in bin sizes xs) c.place within ∙ ap (λ x. cond (int_eq x bin) (get_or sizes c.place (pos 0)) (pos 0)) (get_or_from_slice_get xs c.place c.old (pos 0) is) in
      ap (λ m. total (each_below m (size_in bin sizes (after_number_change xs c)))) n
      ∙ ap total (sym (size_set bin))
      ∙ total-set (each_below (length xs) (size_in bin sizes xs)) c.place (cond (int_eq c.new bin) (get_or sizes c.place (pos 0)) (pos 0)) (pos 0)
      (subst (λ n. c.place < n) (sym (length_by_place (pos 0) (length xs) (size_in bin sizes xs))) within)
      ∙ ap (λ z. (load_of bin sizes xs -ℤ z) +ℤ cond (int_eq c.new bin) (get_or sizes c.place (pos 0)) (pos 0)) there

  height_moved : (size load cap : ℤ) (a b : Bool)
      → cond b (raised size (cond a (raised (pos 0 -ℤ size) (record { height = load; limit = cap })) (record { height = load; limit = cap })))
      (cond a (raised (pos 0 -ℤ size) (record { height = load; limit = cap })) (record { height = load; limit = cap }))
      ≡ record { height = (load -ℤ cond a size (pos 0)) +ℤ cond b size (pos 0); limit = cap }
  height_moved size load cap true true = ap (λ (z : ℤ). record { height = z; limit = cap }) (same size load)
    where
      same : (size load : ℤ) → (load +ℤ (pos 0 -ℤ size) +ℤ size) ≡ ((load -ℤ size) +ℤ size)
      same size load = omega (arith, ints)
  height_moved size load cap true false = ap (λ (z : ℤ). record { height = z; limit = cap }) (same size load)
    where
      same : (size load : ℤ) → (load +ℤ (pos 0 -ℤ size)) ≡ ((load -ℤ size) +ℤ pos 0)
      same size load = omega (arith, ints)
  height_moved size load cap false true = ap (λ (z : ℤ). record { height = z; limit = cap }) (same size load)
    where
      same : (size load : ℤ) → (load +ℤ size) ≡ ((load -ℤ pos 0) +ℤ size)
      same size load = omega (arith, ints)
  height_moved size load cap false false = ap (λ (z : ℤ). record { height = z; limit = cap }) (same load)
    where
      same : (load : ℤ) → load ≡ ((load -ℤ pos 0) +ℤ pos 0)
      same load = omega (arith, ints)

  pub bins_moved : item_moved low (get_or sizes c.place (pos 0)) c (bins_of sizes low capacities xs) ≡ bins_of sizes low capacities (after_number_change xs c)
  bins_moved =
      let size = get_or sizes c.place (pos 0) in
      let bins = bins_of sizes low capacities xs in
      let left = bin_raised low c.old (pos 0 -ℤ size) bins in
      let bins_are = bins_length sizes low capacities xs (length xs) in
      let left_are : length left ≡ length bins = length_by_place flat (length bins) (λ k. cond (int_eq c.old (low +ℤ pos k)) (raised (pos 0 -ℤ size) (level_at bins k)) (level_at bins k)) in
      ap (λ m. by_place m (λ k. cond (int_eq c.new (low +ℤ pos k)) (raised size (level_at left k)) (level_at left k))) (left_are ∙ bins_are)
      ∙ same_by_place flat (length capacities) (λ k. cond (int_eq c.new (low +ℤ pos k)) (raised size (level_at left k)) (level_at left k)) (bin_of_first (length (after_number_change xs c)) sizes low capacities (after_number_change xs c))
      (λ k h.
      let inside : k < length (bins_of sizes low capacities xs) = omega (arith, h, bins_are) in
      ap (λ level. cond (int_eq c.new (low +ℤ pos k)) (raised size level) level)
      (at_place flat (length bins) (λ k. cond (int_eq c.old (low +ℤ pos k)) (raised (pos 0 -ℤ size) (level_at bins k)) (level_at bins k)) k inside
      ∙ ap (λ level. cond (int_eq c.old (low +ℤ pos k)) (raised (pos 0 -ℤ size) level) level) (bin_at sizes low capacities xs (length xs) k h))
      ∙ height_moved size (load_of (low +ℤ pos k) sizes xs) (get_or capacities k (pos 0)) (int_eq c.old (low +ℤ pos k)) (int_eq c.new (low +ℤ pos k))
      ∙ ap (λ (z : ℤ). record { height = z; limit = get_or capacities k (pos 0) }) (sym (load_moved (low +ℤ pos k))))

-- ---- the value
pub bins_value : (sizes : List ℤ) (low : ℤ) (capacities xs : List ℤ) → joined (excesses (bins_of sizes low capacities xs)) ≡ multi_knapsack_violations sizes low capacities xs
bins_value sizes low capacities xs =
    ap joined (map-map excess_of (bin_of_first (length xs) sizes low capacities xs) (range_with_len 0 (length capacities)))
    ∙ sym (run_from_start (bin_fits sizes low capacities xs) (λ k. excess (overload_at sizes low capacities xs k)) (length capacities))
    ∙ bins_run sizes low capacities xs

-- ---- the violation at a place
excess_there : (load cap : ℤ) → fits_64 load ≡ true → fits_64 (load -ℤ cap) ≡ true → number_in (excess_over load cap) ≡ excess (load -ℤ cap)
excess_there load cap fits above = by_tests (fits_64 load) (fits_64 (load -ℤ cap)) fits above
  where
    by_tests : (a b : Bool) → a ≡ true → b ≡ true → number_in (cond (a && (b && true)) (Ok (excess (load -ℤ cap))) (Err Overflow)) ≡ excess (load -ℤ cap)
    by_tests true true e f = refl
    by_tests true false e f = absurd (both_ways false refl f)
    by_tests false b e f = absurd (both_ways false refl e)

pub bin_violation : (sizes : List ℤ) (low : ℤ) (capacities xs : List ℤ) → IsOk (multi_knapsack_violations sizes low capacities xs)
    → (bin : ℤ) (k : ℕ) → HasPlace low (length capacities) bin k
    → number_in (excess_of (level_at (bins_of sizes low capacities xs) k)) ≡ violation_of (bound_of low capacities bin) (load_of bin sizes xs)
bin_violation sizes low capacities xs valued bin k at =
    let bound = bound_found low capacities bin k at in
    let fit = bin_loads_fit sizes low capacities xs valued bin (get_or capacities k (pos 0)) bound in
    ap (λ level. number_in (excess_of level)) (bin_at sizes low capacities xs (length xs) k at.within)
    ∙ ap (λ b. number_in (excess_over (load_of b sizes xs) (get_or capacities k (pos 0)))) (sym at.is)
    ∙ excess_there (load_of bin sizes xs) (get_or capacities k (pos 0)) fit.0 fit.1
    ∙ sym (ap (λ b. violation_of b (load_of bin sizes xs)) bound)
