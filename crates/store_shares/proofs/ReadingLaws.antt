-- What is read one number after another: ranges of numbers that pass, the greatest and the fewest, sums and totals.
use Rattle.std.proofs.Common.{◌≡◌, ◌⊎◌, inl, inr, ℕ, ℤ, pos, zero, suc, ◌+◌, ◌-◌, ◌+ℤ◌, ◌*ℤ◌, ◌<◌, ◌≤◌, Bool, true, false, cond, ◌||◌, ◌&&◌, List, [], ◌∷◌, ◌++◌, Option, Some, None, Result, Ok, Err, length, get_or, take, drop, fold, map, refl, sym, ap, ◌∙◌, arith, slice_get}
use Rattle.std.specs.Prelude.{filter, int_lt, unwrap_or, if◌then◌else◌, ◌≤ℤ◌, ◌^◌, ◌*◌, neg_ℤ}
use Rattle.std.specs.Int.{int_max}
use Rattle.std.specs.List.{list_any, range_with_len}
use Rattle.std.specs.Option.{option_map}
use Rattle.std.proofs.lemmas.Bool.{cases_eq, or_right}
use Rattle.std.proofs.lemmas.Int.{ints, clamps}
use Rattle.std.proofs.lemmas.List.{drop-drop, length-map, map-append, take_more}
use Rattle.std.proofs.lemmas.List.FromFn.{get_or-range_with_len, length-range_with_len}
use Rattle.std.proofs.lemmas.List.Sums.{fold-append}
use Rattle.std.proofs.lemmas.Option.{get_or_from_slice_get, slice_get-get_or, slice_get-map, slice_get_read}
use Rattle.cbl_base.specs.Arithmetic.{fits_64}
use Rattle.cbl_base.specs.declared.faults.RunFault.{RunFault}
use Rattle.cbl_operations.specs.Operations.Greatest.{greatest_of}
use Rattle.store_shares.specs.Calls.{AreZero, tally_all, with_product}
use Rattle.store_shares.specs.Parts.{Told, add_told, fewer_told, fewest_told, greater_told, one_in, told_at, violation_of}
use Rattle.store_shares.specs.Words.{IsNext}
use Rattle.store_shares.specs.declared.calls.Tally.{Tally}
use Rattle.store_shares.specs.declared.parts.Part.{Part}

-- ---- ranges
any_none : (test : ℕ → Bool) (a n : ℕ) → ((k : ℕ) → a ≤ k → k < a + n → test k ≡ false) → list_any test (range_with_len a n) ≡ false
any_none test a zero none = refl
any_none test a (suc n) none =
    ap (λ b. b || list_any test (range_with_len (a + 1) n)) (none a (omega arith) (omega arith))
    ∙ any_none test (a + 1) n (λ k le lt. none k (omega (arith, le)) (omega (arith, lt)))

any_some : (test : ℕ → Bool) (a n k : ℕ) → a ≤ k → k < a + n → test k ≡ true → list_any test (range_with_len a n) ≡ true
any_some test a zero k le lt is = absurd (omega (arith, le, lt))
any_some test a (suc n) k le lt is = choose (λ ne. any_some test (a + 1) n k (omega (arith, le, ne)) (omega (arith, lt)) is) (cases_eq k a)
  where
    choose : ((k ≡ a → ⊥) → list_any test (range_with_len (a + 1) n) ≡ true) → (k ≡ a) ⊎ (k ≡ a → ⊥) → (test a || list_any test (range_with_len (a + 1) n)) ≡ true
    choose rest (inl e) = ap (λ b. b || list_any test (range_with_len (a + 1) n)) (ap test (sym e) ∙ is)
    choose rest (inr ne) = or_right (test a) (list_any test (range_with_len (a + 1) n)) (rest ne)

pub one_found : (test : ℕ → Bool) (first end at : ℕ) → IsNext test first end at → at < end → one_in test first end ≡ true
one_found test first end at next lt =
    let le = next.above in
    any_some test first (end - first) at next.above (omega (arith, le, lt)) (next.some lt)

pub none_found : (test : ℕ → Bool) (first end at : ℕ) → IsNext test first end at → end ≤ at → one_in test first end ≡ false
none_found test first end at next ge = any_none test first (end - first) (λ k le lt. next.none k le (omega (arith, le, lt, ge)))

pub none_empty : (test : ℕ → Bool) (first end : ℕ) → end ≤ first → one_in test first end ≡ false
none_empty test first end le = any_none test first (end - first) (λ k above lt. absurd (omega (arith, above, lt, le)))

-- those that don't pass are left out
skip_by : (test : ℕ → Bool) (a n m : ℕ) → ((k : ℕ) → a ≤ k → k < a + n → test k ≡ false) → filter test (range_with_len a (n + m)) ≡ filter test (range_with_len (a + n) m)
skip_by test a zero m none =
    let none_more : 0 + m ≡ m = omega arith in
    let here : a ≡ a + 0 = omega arith in
    ap (λ k. filter test (range_with_len a k)) none_more ∙ ap (λ k. filter test (range_with_len k m)) here
skip_by test a (suc n) m none =
    let one : suc n + m ≡ suc (n + m) = omega arith in
    let next : a + 1 + n ≡ a + suc n = omega arith in
    ap (λ k. filter test (range_with_len a k)) one
    ∙ ap (λ b. cond b (a ∷ filter test (range_with_len (a + 1) (n + m))) (filter test (range_with_len (a + 1) (n + m)))) (none a (omega arith) (omega arith))
    ∙ skip_by test (a + 1) n m (λ k le lt. none k (omega (arith, le)) (omega (arith, lt)))
    ∙ ap (λ k. filter test (range_with_len k m)) next

pub skipped : (test : ℕ → Bool) (from end at : ℕ) → IsNext test from end at → filter test (range_with_len from (end - from)) ≡ filter test (range_with_len at (end - at))
skipped test from end at next =
    let above = next.above in
    let within = next.within in
    let width : end - from ≡ (at - from) + (end - at) = omega (arith, above, within) in
    let there : from + (at - from) ≡ at = omega (arith, above) in
    ap (λ k. filter test (range_with_len from k)) width
    ∙ skip_by test from (at - from) (end - at) (λ k le lt. next.none k le (omega (arith, lt, above)))
    ∙ ap (λ k. filter test (range_with_len k (end - at))) there

pub found_first : (test : ℕ → Bool) (at end : ℕ) → at < end → test at ≡ true → filter test (range_with_len at (end - at)) ≡ at ∷ filter test (range_with_len (at + 1) (end - (at + 1)))
found_first test at end lt is =
    let one : end - at ≡ suc (end - (at + 1)) = omega (arith, lt) in
    ap (λ k. filter test (range_with_len at k)) one
    ∙ ap (λ b. cond b (at ∷ filter test (range_with_len (at + 1) (end - (at + 1)))) (filter test (range_with_len (at + 1) (end - (at + 1))))) is

-- ---- the greatest
abbrev pub greatest_after : Option ℤ → List ℤ → ℤ
greatest_after None xs = greatest_of xs
greatest_after (Some m) [] = m
greatest_after (Some m) (x ∷ xs) = int_max m (greatest_of (x ∷ xs))

max_assoc : (a b c : ℤ) → int_max a (int_max b c) ≡ int_max (int_max a b) c
max_assoc a b c = omega (arith, ints, clamps)

greatest_more : (most : Option ℤ) (x : ℤ) (xs : List ℤ) → greatest_after most (x ∷ xs) ≡ greatest_after (Some (greater_told most x)) xs
greatest_more None x [] = refl
greatest_more None x (y ∷ ys) = refl
greatest_more (Some m) x [] = refl
greatest_more (Some m) x (y ∷ ys) = max_assoc m x (greatest_of (y ∷ ys))

-- the violations of those that pass from one on
abbrev pub violations_from : (ℕ → ℤ) → (ℕ → Bool) → ℕ → ℕ → ℕ → List ℤ
violations_from violation test first at end = map (λ k. violation (k - first)) (filter test (range_with_len at (end - at)))

pub greatest_start : (violation : ℕ → ℤ) (test : ℕ → Bool) (first end at : ℕ) → IsNext test first end at →
    greatest_of (violations_from violation test first first end) ≡ greatest_after None (violations_from violation test first at end)
greatest_start violation test first end at next = ap (λ ks. greatest_of (map (λ k. violation (k - first)) ks)) (skipped test first end at next)

pub greatest_step : (violation : ℕ → ℤ) (test : ℕ → Bool) (first end at next : ℕ) (most : Option ℤ) (whole : ℤ) → at < end → test at ≡ true → IsNext test (at + 1) end next →
    whole ≡ greatest_after most (violations_from violation test first at end) →
    whole ≡ greatest_after (Some (greater_told most (violation (at - first)))) (violations_from violation test first next end)
greatest_step violation test first end at next most whole lt is later before =
    before ∙ ap (λ ks. greatest_after most (map (λ k. violation (k - first)) ks)) (found_first test at end lt is)
    ∙ greatest_more most (violation (at - first)) (map (λ k. violation (k - first)) (filter test (range_with_len (at + 1) (end - (at + 1)))))
    ∙ ap (λ ks. greatest_after (Some (greater_told most (violation (at - first)))) (map (λ k. violation (k - first)) ks)) (skipped test (at + 1) end next later)

pub greatest_end : (violation : ℕ → ℤ) (test : ℕ → Bool) (first end at : ℕ) (most : Option ℤ) (whole : ℤ) → end ≤ at → whole ≡ greatest_after most (violations_from violation test first at end) →
    unwrap_or most (pos 0) ≡ whole
greatest_end violation test first end at most whole ge before =
    let none : end - at ≡ 0 = omega (arith, ge) in
    sym (before ∙ ap (λ n. greatest_after most (map (λ k. violation (k - first)) (filter test (range_with_len at n)))) none ∙ last most)
  where
    last : (m : Option ℤ) → greatest_after m [] ≡ unwrap_or m (pos 0)
    last None = refl
    last (Some m) = refl

pub greatest_empty : (violation : ℕ → ℤ) (test : ℕ → Bool) (first end : ℕ) → end ≤ first → pos 0 ≡ greatest_of (violations_from violation test first first end)
greatest_empty violation test first end le =
    let none : 0 ≡ end - first = omega (arith, le) in
    ap (λ n. greatest_of (map (λ k. violation (k - first)) (filter test (range_with_len first n)))) none

-- ---- the fewest
pub fewer_is : (f : Part → Told) (parts : List Part) (first at : ℕ) (p q part : Part) (less : Bool) → slice_get parts first ≡ Some p → slice_get parts at ≡ Some q → slice_get parts at ≡ Some part →
    less ≡ int_lt (f q).number (f p).number → told_at f parts (Some (if less then at else first)) ≡ fewer_told (told_at f parts (Some first)) (f part)
fewer_is f parts first at p q part less one other there is =
    let same : q ≡ part = ap (λ o. unwrap_or o q) (sym other ∙ there) in
    choose less one other
    ∙ ap (λ b. Some (if b then f q else f p)) is
    ∙ ap (λ o. fewer_told o (f q)) (sym (ap (option_map f) one))
    ∙ ap (λ (u : Part). fewer_told (told_at f parts (Some first)) (f u)) same
  where
    choose : (b : Bool) → slice_get parts first ≡ Some p → slice_get parts at ≡ Some q → told_at f parts (Some (if b then at else first)) ≡ Some (if b then f q else f p)
    choose true h g = ap (option_map f) g
    choose false h g = ap (option_map f) h

pub there_is : {X : Type 0} (xs : List X) (i : ℕ) → i < length xs → (x : X) × (slice_get xs i ≡ Some x)
there_is [] i lt = absurd (omega (arith, lt))
there_is (x ∷ xs) zero lt = (x, refl)
there_is (x ∷ xs) (suc i) lt = there_is xs i (omega (arith, lt))

pub fewest_more : (f : Part → Told) (parts : List Part) (i : ℕ) (part : Part) (so_far after : Option Told) → i < length parts → slice_get parts i ≡ Some part → so_far ≡ fewest_told (map f (take i parts)) →
    after ≡ fewer_told so_far (f part) → after ≡ fewest_told (map f (take (i + 1) parts))
fewest_more f parts i part so_far after lt is before more =
    more ∙ ap (λ o. fewer_told o (f part)) before
    ∙ sym (ap (λ ps. fewest_told (map f ps)) (take_more parts i part lt ∙ ap (λ (u : Part). take i parts ++ u ∷ []) (get_or_from_slice_get parts i part part is))
    ∙ ap fewest_told (map-append f (take i parts) (part ∷ [])) ∙ fold-append fewer_told None (map f (take i parts)) (f part ∷ []))

-- ---- sums
add_fault : (fault : RunFault) (vs : List (Result ℤ RunFault)) → fold add_told (Err fault) vs ≡ Err fault
add_fault fault [] = refl
add_fault fault (v ∷ vs) = add_fault fault vs

-- what is left of a list of parts begins with the one at its place
left_first : (parts : List Part) (i : ℕ) (part : Part) → i < length parts → part ≡ get_or parts i part → drop i parts ≡ part ∷ drop (i + 1) parts
left_first [] i part lt is = absurd (omega (arith, lt))
left_first (p ∷ parts) zero part lt is = ap (λ (u : Part). u ∷ parts) (sym is)
left_first (p ∷ parts) (suc i) part lt is =
    let e : suc (i + 1) ≡ suc i + 1 = omega arith in
    left_first parts i part (omega (arith, lt)) is ∙ ap (λ n. part ∷ drop n (p ∷ parts)) e

abbrev pub sum_left : (Part → Told) → ℤ → List Part → Result ℤ RunFault
sum_left f sum parts = fold add_told (Ok sum) (map violation_of (map f parts))

pub sum_more : (f : Part → Told) (parts : List Part) (i : ℕ) (part : Part) (sum x : ℤ) (whole : Result ℤ RunFault) → i < length parts → part ≡ get_or parts i part → whole ≡ sum_left f sum (drop i parts) →
    Ok x ≡ (f part).violation → whole ≡ sum_left f (sum +ℤ x) (drop (i + 1) parts)
sum_more f parts i part sum x whole lt is before one =
    before ∙ ap (sum_left f sum) (left_first parts i part lt is)
    ∙ ap (λ v. fold add_told (add_told (Ok sum) v) (map violation_of (map f (drop (i + 1) parts)))) (sym one)

pub sum_stops : (f : Part → Told) (parts : List Part) (i : ℕ) (part : Part) (sum : ℤ) (fault : RunFault) (whole : Result ℤ RunFault) → i < length parts → part ≡ get_or parts i part → whole ≡ sum_left f sum (drop i parts) →
    Err fault ≡ (f part).violation → whole ≡ Err fault
sum_stops f parts i part sum fault whole lt is before one =
    before ∙ ap (sum_left f sum) (left_first parts i part lt is)
    ∙ ap (λ v. fold add_told (add_told (Ok sum) v) (map violation_of (map f (drop (i + 1) parts)))) (sym one)
    ∙ add_fault fault (map violation_of (map f (drop (i + 1) parts)))

-- ---- totals
with_zero : (tally : Tally) (w : ℤ) → with_product tally (pos 0 *ℤ w) ≡ tally
with_zero tally w =
    let none : (pos 0 *ℤ w) ≡ pos 0 = omega (arith, ints) in
    ap (with_product tally) none ∙ by_fits tally.fits refl
  where
    by_fits : (b : Bool) → tally.fits ≡ b → with_product tally (pos 0) ≡ tally
    by_fits true e =
        let same : (tally.sum +ℤ pos 0) ≡ tally.sum = omega (arith, ints) in
        ap (λ b. if b && fits_64 (pos 0) then record { sum = tally.sum +ℤ pos 0; fits = true } else record { sum = tally.sum; fits = false }) e
        ∙ (λ i. record { sum = same i; fits = sym e i })
    by_fits false e =
        ap (λ b. if b && fits_64 (pos 0) then record { sum = tally.sum +ℤ pos 0; fits = true } else record { sum = tally.sum; fits = false }) e
        ∙ (λ i. record { sum = tally.sum; fits = sym e i })

zeros_skipped : (tally : Tally) (n : ℕ) (vs : List (Result ℤ RunFault)) (ws : List ℤ) → ((k : ℕ) (v : Result ℤ RunFault) → k < n → slice_get vs k ≡ Some v → v ≡ Ok (pos 0)) → tally_all tally vs ws ≡ tally_all tally (drop n vs) (drop n ws)
zeros_skipped tally zero vs ws none = refl
zeros_skipped tally (suc n) [] ws none = refl
zeros_skipped tally (suc n) (v ∷ vs) [] none =
    ap (λ u. tally_all tally (u ∷ vs) []) (none 0 v (omega arith) refl)
    ∙ zeros_skipped tally n vs [] (λ k u lt at. none (suc k) u (omega (arith, lt)) at) ∙ ap (tally_all tally (drop n vs)) (drop_none n)
  where
    drop_none : (m : ℕ) → drop {A = ℤ} m [] ≡ []
    drop_none zero = refl
    drop_none (suc m) = refl
zeros_skipped tally (suc n) (v ∷ vs) (w ∷ ws) none =
    ap (λ u. tally_all tally (u ∷ vs) (w ∷ ws)) (none 0 v (omega arith) refl) ∙ ap (λ t. tally_all t vs ws) (with_zero tally w)
    ∙ zeros_skipped tally n vs ws (λ k u lt at. none (suc k) u (omega (arith, lt)) at)

get_dropped : {X : Type 0} (xs : List X) (n k : ℕ) → slice_get (drop n xs) k ≡ slice_get xs (n + k)
get_dropped xs zero k = let e : k ≡ 0 + k = omega arith in ap (slice_get xs) e
get_dropped [] (suc n) k = refl
get_dropped (x ∷ xs) (suc n) k = let e : suc n + k ≡ suc (n + k) = omega arith in get_dropped xs n k ∙ ap (slice_get (x ∷ xs)) (sym e)

-- from one number to the next that is touched
pub tally_skips : (touched : ℕ → Bool) (first from end at : ℕ) (tally : Tally) (vs : List (Result ℤ RunFault)) (ws : List ℤ) → AreZero touched first vs → IsNext touched from end at → first ≤ from →
    tally_all tally (drop (from - first) vs) (drop (from - first) ws) ≡ tally_all tally (drop (at - first) vs) (drop (at - first) ws)
tally_skips touched first from end at tally vs ws zeros next le =
    let above = next.above in
    let there : from - first + (at - from) ≡ at - first = omega (arith, above, le) in
    zeros_skipped tally (at - from) (drop (from - first) vs) (drop (from - first) ws)
    (λ k v lt is.
    let here : first + (from - first + k) ≡ from + k = omega (arith, le) in
    zeros (from - first + k) v (sym (get_dropped vs (from - first) k) ∙ is) (ap touched here ∙ next.none (from + k) (omega arith) (omega (arith, lt, above))))
    ∙ ap (λ xs. tally_all tally xs (drop (at - from) (drop (from - first) ws))) (drop-drop (at - from) (from - first) vs ∙ ap (λ n. drop n vs) there)
    ∙ ap (λ xs. tally_all tally (drop (at - first) vs) xs) (drop-drop (at - from) (from - first) ws ∙ ap (λ n. drop n ws) there)

pub get_first : {X : Type 0} (xs : List X) (n : ℕ) (x : X) → slice_get xs n ≡ Some x → drop n xs ≡ x ∷ drop (n + 1) xs
get_first [] n x at = let c : None ≡ Some x = at in cc
get_first (y ∷ ys) zero x at = ap (λ o. unwrap_or o x ∷ ys) at
get_first (y ∷ ys) (suc n) x at =
    let e : suc (n + 1) ≡ suc n + 1 = omega arith in
    get_first ys n x at ∙ ap (λ k. x ∷ drop k (y ∷ ys)) e

pub tally_step : (tally : Tally) (n : ℕ) (v w : ℤ) (vs : List (Result ℤ RunFault)) (ws : List ℤ) → slice_get vs n ≡ Some (Ok v) → slice_get ws n ≡ Some w →
    tally_all tally (drop n vs) (drop n ws) ≡ tally_all (with_product tally (v *ℤ w)) (drop (n + 1) vs) (drop (n + 1) ws)
tally_step tally n v w vs ws one weight = ap (λ xs. tally_all tally xs (drop n ws)) (get_first vs n (Ok v) one) ∙ ap (tally_all tally (Ok v ∷ drop (n + 1) vs)) (get_first ws n w weight)

pub tally_stops : (tally : Tally) (n : ℕ) (fault : RunFault) (vs : List (Result ℤ RunFault)) (ws : List ℤ) → slice_get vs n ≡ Some (Err fault) → tally_all tally (drop n vs) (drop n ws) ≡ Err fault
tally_stops tally n fault vs ws one = ap (λ xs. tally_all tally xs (drop n ws)) (get_first vs n (Err fault) one)

pub tally_ends : (tally : Tally) (n : ℕ) (vs : List (Result ℤ RunFault)) (ws : List ℤ) → length vs ≤ n → tally_all tally (drop n vs) (drop n ws) ≡ Ok tally
tally_ends tally n vs ws le = ap (λ xs. tally_all tally xs (drop n ws)) (none_left n vs le)
  where
    none_left : (m : ℕ) (xs : List (Result ℤ RunFault)) → length xs ≤ m → drop m xs ≡ []
    none_left zero [] le = refl
    none_left zero (x ∷ xs) le = absurd (omega (arith, le))
    none_left (suc m) [] le = refl
    none_left (suc m) (x ∷ xs) le = none_left m xs (omega (arith, le))

pub tally_start : (touched : ℕ → Bool) (first end at : ℕ) (tally : Tally) (vs : List (Result ℤ RunFault)) (ws : List ℤ) → AreZero touched first vs → IsNext touched first end at →
    tally_all tally vs ws ≡ tally_all tally (drop (at - first) vs) (drop (at - first) ws)
tally_start touched first end at tally vs ws zeros next =
    let none : 0 ≡ first - first = omega arith in
    ap (λ n. tally_all tally (drop n vs) (drop n ws)) none ∙ tally_skips touched first first end at tally vs ws zeros next (omega arith)

-- one that is touched, and on to the next
pub tally_next : (touched : ℕ → Bool) (first end at next : ℕ) (tally after : Tally) (v w : ℤ) (vs : List (Result ℤ RunFault)) (ws : List ℤ) (whole : Result Tally RunFault) → first ≤ at → AreZero touched first vs →
    slice_get vs (at - first) ≡ Some (Ok v) → slice_get ws (at - first) ≡ Some w → after ≡ with_product tally (v *ℤ w) → IsNext touched (at + 1) end next →
    whole ≡ tally_all tally (drop (at - first) vs) (drop (at - first) ws) → whole ≡ tally_all after (drop (next - first) vs) (drop (next - first) ws)
tally_next touched first end at next tally after v w vs ws whole le zeros one weight is later before =
    let on : at - first + 1 ≡ at + 1 - first = omega (arith, le) in
    before ∙ tally_step tally (at - first) v w vs ws one weight
    ∙ ap (λ t. tally_all t (drop (at - first + 1) vs) (drop (at - first + 1) ws)) (sym is)
    ∙ ap (λ n. tally_all after (drop n vs) (drop n ws)) on
    ∙ tally_skips touched first (at + 1) end next after vs ws zeros later (omega (arith, le))

-- what stands at a place of what is told, and of the weights
pub told_there : (f : Part → Told) (parts : List Part) (i : ℕ) (part : Part) (v : Result ℤ RunFault) → i < length parts → part ≡ get_or parts i part → v ≡ (f part).violation → slice_get (map violation_of (map f parts)) i ≡ Some v
told_there f parts i part v lt is e =
    slice_get-map violation_of (map f parts) i
    ∙ ap (option_map violation_of) (slice_get-map f parts i ∙ ap (option_map f) (slice_get_read parts (length parts) i part refl lt is))
    ∙ ap Some (sym e)

pub weight_there : (weight : ℕ → ℤ) (n k : ℕ) → k < n → slice_get (map weight (range_with_len 0 n)) k ≡ Some (weight k)
weight_there weight n k lt =
    let long = length-range_with_len 0 n in
    let at : get_or (range_with_len 0 n) k 0 ≡ k = omega (arith, get_or-range_with_len 0 n k 0 lt) in
    slice_get-map weight (range_with_len 0 n) k
    ∙ ap (option_map weight) (slice_get-get_or (range_with_len 0 n) k 0 (omega (arith, lt, long)) ∙ ap Some at)

pub told_length : (f : Part → Told) (parts : List Part) → length (map violation_of (map f parts)) ≡ length parts
told_length f parts = length-map (map f parts) violation_of ∙ length-map parts f

-- ---- bounds
pub low_wider : (n m : ℕ) (z : ℤ) → n ≤ m → neg_ℤ (pos (2 ^ 63 * n)) ≤ℤ z → neg_ℤ (pos (2 ^ 63 * m)) ≤ℤ z
low_wider n m z le h = omega (arith, ints, le, h)

pub high_wider : (n m : ℕ) (z : ℤ) → n ≤ m → z ≤ℤ pos (2 ^ 63 * n) → z ≤ℤ pos (2 ^ 63 * m)
high_wider n m z le h = omega (arith, ints, le, h)
