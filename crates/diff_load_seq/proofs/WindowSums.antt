-- The sum over the windows that hold a place, as a sum over places in a row.
use Rattle.std.proofs.Common.{◌≡◌, ℕ, zero, suc, ◌+◌, ◌-◌, ◌<◌, ◌≤◌, ◌^◌, ℤ, pos, ◌+ℤ◌, Bool, true, false, cond, List, ◌∷◌, ◌++◌, length, filter, refl, ap, sym, ◌∙◌, arith, Ok, Err}
use Rattle.std.specs.Prelude.{IsOk}
use Rattle.std.specs.List.{range_with_len}
use Rattle.std.proofs.lemmas.Int.{ints}
use Rattle.std.proofs.lemmas.Bool.Decides.{nat_tests}
use Rattle.std.proofs.lemmas.List.Elements.{filter-append}
use Rattle.std.proofs.lemmas.Simd.{map-map}
use Rattle.cbl_base.specs.Arithmetic.{fits_64}
use Rattle.cbl_base.specs.Totals.{total, total_by}
use Rattle.cbl_base.specs.declared.faults.RunFault.TheVariants.{Overflow}
use Rattle.cbl_base.proofs.TotalLemmas.{total_by-append}
use Rattle.cbl_violations.specs.Fitting.{excess}
use Rattle.cbl_violations.specs.Violations.Sequence.{size_of, windows_in, surplus_in_window, holds_place, sequence_violations}
use Rattle.cbl_violations.proofs.Runs.{fitting}
use Rattle.cbl_violations.proofs.SequenceRun.{sum_where, surplus_fits}
use Rattle.diff_load_seq.specs.Parts.{number_in, sum_of}
use Rattle.diff_load_seq.specs.Levels.{level_at, is_between, excess_of, excesses_between}
use Rattle.diff_load_seq.specs.Windows.{windows_of, first_holding, last_holding}
use Rattle.diff_load_seq.proofs.WindowLemmas.{window_at, window_excess}

-- ---- sums over places in a row
total_same : (f g : ℕ → ℤ) (a m : ℕ) → ((k : ℕ) → a ≤ k → k < a + m → f k ≡ g k) → total_by f (range_with_len a m) ≡ total_by g (range_with_len a m)
total_same f g a zero h = refl
total_same f g a (suc m) h =
    let first = h a (omega arith) (omega arith) in
    let rest = total_same f g (a + 1) m (λ k low high. h k (omega (arith, low)) (omega (arith, high))) in
    omega (arith, ints, first, rest)

where_none : (p : ℕ → Bool) (h : ℕ → ℤ) (a m : ℕ) → ((k : ℕ) → a ≤ k → k < a + m → p k ≡ false) → sum_where p h (range_with_len a m) ≡ pos 0
where_none p h a zero none = refl
where_none p h a (suc m) none =
    let rest = range_with_len (a + 1) m in
    ap (λ b. total_by h (cond b (a ∷ filter p rest) (filter p rest))) (none a (omega arith) (omega arith))
    ∙ where_none p h (a + 1) m (λ k low high. none k (omega (arith, low)) (omega (arith, high)))

where_all : (p : ℕ → Bool) (h : ℕ → ℤ) (a m : ℕ) → ((k : ℕ) → a ≤ k → k < a + m → p k ≡ true) → sum_where p h (range_with_len a m) ≡ total_by h (range_with_len a m)
where_all p h a zero all = refl
where_all p h a (suc m) all =
    let rest = range_with_len (a + 1) m in
    ap (λ b. total_by h (cond b (a ∷ filter p rest) (filter p rest))) (all a (omega arith) (omega arith))
    ∙ ap (λ z. h a +ℤ z) (where_all p h (a + 1) m (λ k low high. all k (omega (arith, low)) (omega (arith, high))))

range_split : (a m n : ℕ) → range_with_len a (m + n) ≡ range_with_len a m ++ range_with_len (a + m) n
range_split a zero n = let here : a ≡ a + zero = omega arith in let all : zero + n ≡ n = omega arith in ap (range_with_len a) all ∙ ap (λ b. range_with_len b n) here
range_split a (suc m) n =
    let next : suc m + n ≡ suc (m + n) = omega arith in
    let same : a + 1 + m ≡ a + suc m = omega arith in
    ap (range_with_len a) next ∙ ap (λ t. a ∷ t) (range_split (a + 1) m n ∙ ap (λ b. range_with_len (a + 1) m ++ range_with_len b n) same)

where_split : (p : ℕ → Bool) (h : ℕ → ℤ) (a m n : ℕ) → sum_where p h (range_with_len a (m + n)) ≡ (sum_where p h (range_with_len a m) +ℤ sum_where p h (range_with_len (a + m) n))
where_split p h a m n =
    ap (sum_where p h) (range_split a m n)
    ∙ ap (total_by h) (filter-append p (range_with_len a m) (range_with_len (a + m) n))
    ∙ total_by-append h (filter p (range_with_len a m)) (filter p (range_with_len (a + m) n))

between_sum : (p : ℕ → Bool) (h : ℕ → ℤ) (first last n : ℕ) → first ≤ last → last ≤ n → ((k : ℕ) → k < n → p k ≡ is_between first last k)
    → total_by h (range_with_len first (last - first)) ≡ sum_where p h (range_with_len 0 n)
between_sum p h first last n order within same =
    let all : first + (last - first + (n - last)) ≡ n = omega (arith, order, within) in
    let zero_first : 0 + first ≡ first = omega arith in
    let then : first + (last - first) ≡ last = omega (arith, order) in
    let low = where_none p h 0 first (λ k l u. same k (omega (arith, u, order, within)) ∙ below k (omega (arith, u))) in
    let mid = where_all p h first (last - first) (λ k l u. same k (omega (arith, u, order, within)) ∙ inside k l (omega (arith, u, order))) in
    let high = where_none p h (first + (last - first)) (n - last) (λ k l u. same k (omega (arith, u, order, within)) ∙ above k (omega (arith, l, order))) in
    let outer = ap (λ m. sum_where p h (range_with_len 0 m)) (sym all) ∙ where_split p h 0 first (last - first + (n - last))
    ∙ ap (λ a. sum_where p h (range_with_len 0 first) +ℤ sum_where p h (range_with_len a (last - first + (n - last)))) zero_first in
    let inner = where_split p h first (last - first) (n - last) in
    omega (arith, ints, low, mid, high, outer, inner)
  where
    below : (k : ℕ) → k < first → is_between first last k ≡ false
    below k h = grind (arith, nat_tests)

    inside : (k : ℕ) → first ≤ k → k < last → is_between first last k ≡ true
    inside k l u = grind (arith, nat_tests)

    above : (k : ℕ) → last ≤ k → is_between first last k ≡ false
    above k h = grind (arith, nat_tests)

-- ---- the windows that hold a place
held_between : (size place n k : ℕ) → k < n → holds_place size place k ≡ is_between (first_holding size place) (last_holding place n) k
held_between size place n k h = grind (arith, nat_tests)

number_there : (z : ℤ) → fits_64 z ≡ true → number_in (fitting excess z) ≡ excess z
number_there z fits = ap (λ b. number_in (cond b (Ok (excess z)) (Err Overflow))) fits

pub held_sum : (values : List ℤ) (most window : ℤ) (xs : List ℤ) → IsOk (sequence_violations values most window xs) → length xs < 2 ^ 63 → (place : ℕ) → place < length xs
    → let size = size_of window in
    let first = first_holding size place in
    let last = last_holding place (windows_in size xs) in
    sum_of (excesses_between (windows_of values most size xs) first (last - first)) ≡ sum_where (holds_place size place) (λ start. excess (surplus_in_window values most size xs start)) (range_with_len 0 (windows_in size xs))
held_sum values most window xs valued few place within =
    let size = size_of window in
    let n = windows_in (size_of window) xs in
    let first = first_holding (size_of window) place in
    let last = last_holding place (windows_in (size_of window) xs) in
    let h = λ (start : ℕ). excess (surplus_in_window values most (size_of window) xs start) in
    let inside : first ≤ n = omega (arith, within) in
    let order : first ≤ last = omega (arith, within) in
    let upto : last ≤ n = omega arith in
    ap total (map-map number_in (λ k. excess_of (level_at (windows_of values most size xs) k)) (range_with_len first (last - first)))
    ∙ total_same (λ k. number_in (excess_of (level_at (windows_of values most size xs) k))) h first (last - first)
    (λ k l u.
    let below : k < windows_in (size_of window) xs = omega (arith, l, u, order, upto) in
    ap (λ level. number_in (excess_of level)) (window_at values most size xs k below)
    ∙ ap number_in (window_excess values most size xs k few)
    ∙ number_there (surplus_in_window values most size xs k) (surplus_fits values most window xs valued k below))
    ∙ between_sum (holds_place size place) h first last n order upto (λ k below. held_between size place n k below)
