-- The counts of windows: as the difference of two counts from the start, and how they change.
use Rattle.std.proofs.Common.{◌≡◌, ℕ, zero, suc, ◌+◌, ◌-◌, ◌<◌, ◌≤◌, ◌^◌, ℤ, pos, ◌+ℤ◌, Bool, true, false, cond, ◌&&◌, List, [], ◌∷◌, length, get_or, set, take, drop, refl, ap, sym, ◌∙◌, subst, arith, Ok, Err, length-drop, ◌⊎◌, inl, inr}
use Rattle.std.specs.Prelude.{slice_range}
use Rattle.std.specs.List.{range_with_len}
use Rattle.std.proofs.lemmas.Int.{ints}
use Rattle.std.proofs.lemmas.Bool.Decides.{nat_tests}
use Rattle.std.proofs.lemmas.List.{length-set, get_or-take, drop-take, length-take}
use Rattle.std.proofs.lemmas.List.Sums.{sum_by-set, sum_by-take-drop, count_by-le-length}
use Rattle.std.proofs.lemmas.Simd.{map-map}
use Rattle.cbl_base.specs.Arithmetic.{fits_64}
use Rattle.cbl_base.specs.Sets.{is_member}
use Rattle.cbl_base.specs.declared.faults.RunFault.TheVariants.{Overflow}
use Rattle.cbl_violations.specs.Fitting.{excess}
use Rattle.cbl_violations.specs.Violations.Sequence.{count_in, windows_in, size_of, surplus_in_window, sequence_violations}
use Rattle.cbl_violations.proofs.Runs.{fitting, start_run}
use Rattle.node_base.specs.declared.number_change.NumberChange.{NumberChange}
use Rattle.node_base.specs.NumberChanges.{IsNumberChange, after_number_change}
use Rattle.std.proofs.lemmas.Option.{get_or_from_slice_get}
use Rattle.diff_load_seq.specs.Parts.{joined}
use Rattle.diff_load_seq.specs.Levels.{flat, level_at, raised, is_between, raised_between, excess_of, excesses}
use Rattle.diff_load_seq.specs.Bins.{IsLow, AreLow}
use Rattle.diff_load_seq.specs.Windows.{window_of, windows_of, one_in, gain_of, first_holding, last_holding, number_moved}
use Rattle.diff_load_seq.specs.declared.levels.Level.{Level}
use Rattle.diff_load_seq.proofs.PlaceLists.{by_place, at_place, length_by_place, is_by_place, same_by_place}
use Rattle.diff_load_seq.proofs.ProductLemmas.{change_within}
use Rattle.diff_load_seq.proofs.JoinLemmas.{run_from_start}

-- ---- counts from the start
abbrev pub before : List ℤ → List ℤ → ℕ → ℕ
before values xs i = count_in values (take i xs)

pub before_few : (values xs : List ℤ) (i : ℕ) → before values xs i ≤ length xs
before_few values xs i =
    let most = count_by-le-length (λ x. is_member x values) (take i xs) in
    omega (arith, most, length-take i xs)

take_set_past : (xs : List ℤ) (p i : ℕ) (y : ℤ) → i ≤ p → take i (set xs p y) ≡ take i xs
take_set_past [] p i y h = refl
take_set_past (x ∷ xs) p zero y h = refl
take_set_past (x ∷ xs) zero (suc i) y h = absurd (omega (arith, h))
take_set_past (x ∷ xs) (suc p) (suc i) y h = ap (λ t. x ∷ t) (take_set_past xs p i y (omega (arith, h)))

take_set_in : (xs : List ℤ) (p i : ℕ) (y : ℤ) → p < i → take i (set xs p y) ≡ set (take i xs) p y
take_set_in [] p zero y h = refl
take_set_in [] p (suc i) y h = refl
take_set_in (x ∷ xs) p zero y h = absurd (omega (arith, h))
take_set_in (x ∷ xs) zero (suc i) y h = refl
take_set_in (x ∷ xs) (suc p) (suc i) y h = ap (λ t. x ∷ t) (take_set_in xs p i y (omega (arith, h)))

take_take : (xs : List ℤ) (k m : ℕ) → take k (take (k + m) xs) ≡ take k xs
take_take [] k m = ap (take k) (nothing (k + m))
  where
    nothing : (n : ℕ) → take {A = ℤ} n [] ≡ []
    nothing zero = refl
    nothing (suc n) = refl
take_take (x ∷ xs) zero m = refl
take_take (x ∷ xs) (suc k) m =
    let next : suc k + m ≡ suc (k + m) = omega arith in
    ap (λ n. take (suc k) (take n (x ∷ xs))) next ∙ ap (λ t. x ∷ t) (take_take xs k m)

-- the count of a window is the difference of two counts from the start
pub window_count : (values xs : List ℤ) (k size : ℕ) → before values xs k + count_in values (slice_range xs k (k + size)) ≡ before values xs (k + size)
window_count values xs k size =
    let same : k + size - k ≡ size = omega arith in
    ap (λ n. before values xs k + count_in values (take n (drop k xs))) same
    ∙ ap (λ t. before values xs k + count_in values t) (sym (drop-take k size xs))
    ∙ ap (λ t. count_in values t + count_in values (drop k (take (k + size) xs))) (sym (take_take xs k size))
    ∙ sum_by-take-drop (one_in values) (take (k + size) xs) k

-- it is no more than the length
pub count_few : (values xs : List ℤ) (a b : ℕ) → count_in values (slice_range xs a b) ≤ length xs
count_few values xs a b =
    let most = count_by-le-length (λ x. is_member x values) (slice_range xs a b) in
    omega (arith, most, length-take (b - a) (drop a xs), length-drop a xs)

module _ (values xs : List ℤ) (c : NumberChange) (is : IsNumberChange xs c) where
  before_later : (i : ℕ) → i ≤ c.place → before values (after_number_change xs c) i ≡ before values xs i
  before_later i h = ap (count_in values) (take_set_past xs c.place i c.new h)

  before_earlier : (i : ℕ) → c.place < i → before values (after_number_change xs c) i + one_in values c.old ≡ before values xs i + one_in values c.new
  before_earlier i h =
      let within = change_within values xs c is in
      let inside : c.place < length (take i xs) = omega (arith, within, h, length-take i xs) in
      let there : get_or (take i xs) c.place (pos 0) ≡ c.old = get_or-take i xs c.place (pos 0) h ∙ get_or_from_slice_get xs c.place c.old (pos 0) is in
      ap (λ t. count_in values t + one_in values c.old) (take_set_in xs c.place i c.new h)
      ∙ ap (λ x. count_in values (set (take i xs) c.place c.new) + one_in values x) (sym there)
      ∙ sum_by-set (one_in values) (take i xs) c.place c.new (pos 0) inside

  -- by how much the count of a window changes
  count_held : (k size : ℕ) → k ≤ c.place → c.place < k + size
      → pos (count_in values (slice_range (after_number_change xs c) k (k + size))) ≡ (pos (count_in values (slice_range xs k (k + size))) +ℤ gain_of values c)
  count_held k size low high =
      let w = window_count values xs k size in
      let w' = window_count values (after_number_change xs c) k size in
      let l = before_later k low in
      let e = before_earlier (k + size) high in
      omega (arith, ints, w, w', l, e)

  count_before : (k size : ℕ) → c.place < k → count_in values (slice_range (after_number_change xs c) k (k + size)) ≡ count_in values (slice_range xs k (k + size))
  count_before k size h =
      let w = window_count values xs k size in
      let w' = window_count values (after_number_change xs c) k size in
      let l = before_earlier k h in
      let e = before_earlier (k + size) (omega (arith, h)) in
      omega (arith, w, w', l, e)

  count_behind : (k size : ℕ) → k + size ≤ c.place → count_in values (slice_range (after_number_change xs c) k (k + size)) ≡ count_in values (slice_range xs k (k + size))
  count_behind k size h =
      let w = window_count values xs k size in
      let w' = window_count values (after_number_change xs c) k size in
      let l = before_later k (omega (arith, h)) in
      let e = before_later (k + size) h in
      omega (arith, w, w', l, e)

-- ---- raised by nothing
pub nothing_raised : (first last : ℕ) (levels : List Level) → raised_between first last (pos 0) levels ≡ levels
nothing_raised first last levels = sym (is_by_place flat levels (length levels) (λ k. cond (is_between first last k) (raised (pos 0) (level_at levels k)) (level_at levels k)) refl
    (λ k lt. same (level_at levels k) (is_between first last k)))
  where
    same : (level : Level) (b : Bool) → level ≡ cond b (raised (pos 0) level) level
    same level true = let e : level.height ≡ (level.height +ℤ pos 0) = omega (arith, ints) in ap (λ (z : ℤ). record { height = z; limit = level.limit }) e
    same level false = refl

-- ---- the windows
module _ (values : List ℤ) (most : ℤ) (size : ℕ) (xs : List ℤ) where
  pub windows_length : length (windows_of values most size xs) ≡ windows_in size xs
  windows_length = length_by_place flat (windows_in size xs) (window_of values most size xs)

  pub window_at : (k : ℕ) → k < windows_in size xs → level_at (windows_of values most size xs) k ≡ window_of values most size xs k
  window_at k h = at_place flat (windows_in size xs) (window_of values most size xs) k h

  pub windows_low : length xs < 2 ^ 63 → AreLow (windows_of values most size xs)
  windows_low few k h =
      let n = count_few values xs k (k + size) in
      subst IsLow (sym (window_at k (subst (λ n. k < n) windows_length h))) (record { low = omega (arith, ints); high = omega (arith, ints, n, few) })

  pub place_held : (place : ℕ) → place < length xs → first_holding size place ≤ length (windows_of values most size xs)
  place_held place h = omega (arith, h, windows_length)

  module _ (c : NumberChange) (is : IsNumberChange xs c) where
    held_or_not : (n k : ℕ) → k < n → (b : Bool) → is_between (first_holding size c.place) (last_holding c.place n) k ≡ b
        → cond b (raised (gain_of values c) (window_of values most size xs k)) (window_of values most size xs k) ≡ window_of values most size (after_number_change xs c) k
    held_or_not n k h true t =
        let low : k ≤ c.place = grind (arith, nat_tests) in
        let high : c.place < k + size = grind (arith, nat_tests) in
        ap (λ (z : ℤ). record { height = z; limit = most }) (sym (count_held values xs c is k size low high))
    held_or_not n k h false t = by_side (place_before_or_behind t)
      where
        place_before_or_behind : is_between (first_holding size c.place) (last_holding c.place n) k ≡ false → (c.place < k) ⊎ (k + size ≤ c.place)
        place_before_or_behind t = grind (arith, nat_tests)

        by_side : (c.place < k) ⊎ (k + size ≤ c.place) → window_of values most size xs k ≡ window_of values most size (after_number_change xs c) k
        by_side (inl h) = ap (λ n. record { height = pos n; limit = most }) (sym (count_before values xs c is k size h))
        by_side (inr h) = ap (λ n. record { height = pos n; limit = most }) (sym (count_behind values xs c is k size h))

    pub windows_moved : number_moved values size c (windows_of values most size xs) ≡ windows_of values most size (after_number_change xs c)
    windows_moved =
        let n = windows_in size xs in
        let windows = windows_of values most size xs in
        let same : windows_in size (after_number_change xs c) ≡ windows_in size xs = ap (λ m. m + 1 - size) (length-set xs c.place c.new) in
        ap (λ m. by_place m (λ k. cond (is_between (first_holding size c.place) (last_holding c.place m) k) (raised (gain_of values c) (level_at windows k)) (level_at windows k))) windows_length
        ∙ same_by_place flat n (λ k. cond (is_between (first_holding size c.place) (last_holding c.place n) k) (raised (gain_of values c) (level_at windows k)) (level_at windows k)) (window_of values most size (after_number_change xs c))
        (λ k h. ap (λ level. cond (is_between (first_holding size c.place) (last_holding c.place n) k) (raised (gain_of values c) level) level) (window_at k h)
        ∙ held_or_not n k h (is_between (first_holding size c.place) (last_holding c.place n) k) refl)
        ∙ ap (λ m. by_place m (window_of values most size (after_number_change xs c))) (sym same)

  -- ---- the value
  fits_count : (n : ℕ) → n < 2 ^ 63 → fits_64 (pos n) ≡ true
  fits_count n h = grind (arith, nat_tests)

  pub window_excess : (k : ℕ) → length xs < 2 ^ 63 → excess_of (window_of values most size xs k) ≡ fitting excess (surplus_in_window values most size xs k)
  window_excess k few =
      let n = count_few values xs k (k + size) in
      by_test (fits_64 (pos (count_in values (slice_range xs k (k + size))))) (fits_64 (surplus_in_window values most size xs k)) (fits_count (count_in values (slice_range xs k (k + size))) (omega (arith, n, few)))
    where
      by_test : (a b : Bool) → a ≡ true → cond (a && (b && true)) (Ok (excess (surplus_in_window values most size xs k))) (Err Overflow) ≡ cond b (Ok (excess (surplus_in_window values most size xs k))) (Err Overflow)
      by_test true true e = refl
      by_test true false e = refl
      by_test false b e = cc e

pub windows_value : (values : List ℤ) (most window : ℤ) (xs : List ℤ) → length xs < 2 ^ 63
    → joined (excesses (windows_of values most (size_of window) xs)) ≡ sequence_violations values most window xs
unfolding sequence_violations
windows_value values most window xs few =
    let size = size_of window in
    let n = windows_in size xs in
    ap joined (map-map excess_of (window_of values most size xs) (range_with_len 0 n)
    ∙ same_by_place (Ok (pos 0)) n (λ k. excess_of (window_of values most size xs k)) (λ k. fitting excess (surplus_in_window values most size xs k)) (λ k h. window_excess values most size xs k few))
    ∙ sym (run_from_start (λ k. fits_64 (surplus_in_window values most size xs k)) (λ k. excess (surplus_in_window values most size xs k)) n)
    ∙ start_run excess (surplus_in_window values most size xs) n
