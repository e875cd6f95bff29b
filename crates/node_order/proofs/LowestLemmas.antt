-- The least of a list after changes, by how often each number stands there.
use Rattle.std.proofs.Common.{◌≡◌, ℕ, zero, suc, ◌+◌, ◌-◌, ◌<◌, ◌≤◌, ℤ, pos, ◌+ℤ◌, ◌<ℤ◌, ◌≤ℤ◌, true, false, cond, nat_lt, ◌⊎◌, inl, inr, List, [], ◌∷◌, set, Option, Some, None, Result, Ok, refl, ap, sym, ◌∙◌, subst, arith}
use Rattle.std.specs.Prelude.{unwrap_or, int_lt, slice_get, if◌then◌else◌}
use Rattle.std.specs.Int.{int_min}
use Rattle.std.specs.Map.{lookup, keys_of}
use Rattle.std.specs.Ordering.{int_cmp, int_eq, is_eq}
use Rattle.std.specs.BTreeMap.{is_at}
use Rattle.std.specs.List.{AllByRecursion}
use Rattle.std.specs.List.Sorted.{IsStrictlySortedBy}
use Rattle.std.specs.declared.cmp.Ordering.TheVariants.{Less}
use Rattle.std.proofs.lemmas.Bool.{cases_Bool, cond-true, cond-false}
use Rattle.std.proofs.lemmas.Bool.Decides.{nat_tests}
use Rattle.std.proofs.lemmas.Int.{ints, clamps}
use Rattle.std.proofs.lemmas.List.Sums.{sum_by-cons}
use Rattle.cbl_base.specs.Counts.{count_of}
use Rattle.cbl_base.specs.Sets.{IsBelowAll, IsRising}
use Rattle.cbl_base.specs.declared.faults.RunFault.{RunFault}
use Rattle.cbl_base.proofs.CountLemmas.{one_at, count_of-cons, count_of-set}
use Rattle.cbl_base.proofs.PlaceLemmas.{others_stay}
use Rattle.cbl_base.proofs.SetLemmas.{int_eq-itself, int_eq-true, int_eq-false}
use Rattle.cbl_operations.specs.Operations.Least.{least_of}
use Rattle.node_base.specs.NumberChanges.{NoNumberAt, IsNumberChange, AreNumberChanges, after_number_changes}
use Rattle.node_base.specs.declared.number_change.NumberChange.{NumberChange}
use Rattle.node_base.specs.KeptCounts.{times_kept}
use Rattle.node_base.specs.declared.ordered_counts.OrderedCounts.{OrderedCounts}
use Rattle.node_base.proofs.ChangeLemmas.{number_within, number_read}
use Rattle.node_base.proofs.TallyLemmas.{counts_changed, old_kept}
use Rattle.node_order.specs.Lowering.{times_old, first_left, lower, lowest_with, lowest}
use Rattle.node_order.specs.OrderedCounts.{AreCountsOf}

-- ---- the numbers that changes take away, and those that they bring
times_new : ℤ → List NumberChange → ℕ
times_new v changes = Rattle.std.specs.Prelude.count_by (λ c. int_eq c.new v) changes

old-cons : (v : ℤ) (c : NumberChange) (cs : List NumberChange) → times_old v (c ∷ cs) ≡ one_at v c.old + times_old v cs
old-cons v c cs = sum_by-cons (λ (d : NumberChange). cond (int_eq d.old v) 1 0) c cs

new-cons : (v : ℤ) (c : NumberChange) (cs : List NumberChange) → times_new v (c ∷ cs) ≡ one_at v c.new + times_new v cs
unfolding times_new
new-cons v c cs = sum_by-cons (λ (d : NumberChange). cond (int_eq d.new v) 1 0) c cs

new-nil : (v : ℤ) → times_new v [] ≡ 0
unfolding times_new
new-nil v = refl

-- the later changes are changes of what stands there after the first, whatever its new number
later_changes : (xs : List ℤ) (place : ℕ) (y : ℤ) (cs : List NumberChange) → NoNumberAt place cs → AreNumberChanges xs cs → AreNumberChanges (set xs place y) cs
later_changes xs place y [] far h = tt
later_changes xs place y (e ∷ cs) far h = (others_stay xs place e.place y far.0 ∙ h.0, h.1, later_changes xs place y cs far.1 h.2)

at_change : (v : ℤ) (xs : List ℤ) (c : NumberChange) (y : ℤ) → IsNumberChange xs c → count_of v (set xs c.place y) + one_at v c.old ≡ count_of v xs + one_at v y
at_change v xs c y h = ap (λ z. count_of v (set xs c.place y) + one_at v z) (sym (number_read xs c (pos 0) h)) ∙ count_of-set v xs c.place y (pos 0) (number_within xs c h)

counts_after : (v : ℤ) (xs : List ℤ) (cs : List NumberChange) → AreNumberChanges xs cs → count_of v (after_number_changes xs cs) + times_old v cs ≡ count_of v xs + times_new v cs
counts_after v xs [] h = ap (λ n. count_of v xs + n) (sym (new-nil v))
counts_after v xs (c ∷ cs) h =
    let later = counts_after v (set xs c.place c.new) cs (later_changes xs c.place c.new cs h.1 h.2) in
    let here = at_change v xs c c.new h.0 in
    omega (arith, later, here, old-cons v c cs, new-cons v c cs)

-- no more are taken away than there are
old-le : (v : ℤ) (xs : List ℤ) (cs : List NumberChange) → AreNumberChanges xs cs → times_old v cs ≤ count_of v xs
old-le v xs [] h = omega arith
old-le v xs (c ∷ cs) h =
    let y = v +ℤ pos 1 in
    let other : one_at v y ≡ 0 = cond-false (int_eq y v) 1 0 (int_eq-false y v (λ e. omega (arith, ints, e))) in
    let later = old-le v (set xs c.place y) cs (later_changes xs c.place y cs h.1 h.2) in
    let here = at_change v xs c y h.0 in
    omega (arith, later, here, other, old-cons v c cs)

-- ---- the counts in order
count_in : List (ℤ × ℕ) → ℤ → ℕ
count_in es v = unwrap_or (lookup (is_at (int_cmp v)) es) 0

-- of two numbers the comparison is the test
compared : (v k : ℤ) → is_eq (int_cmp v k) ≡ int_eq v k
compared v k = refl

count_here : (k : ℤ) (n : ℕ) (es : List (ℤ × ℕ)) → count_in ((k, n) ∷ es) k ≡ n
unfolding count_in
count_here k n es = ap (λ o. unwrap_or o 0) (cond-true (is_eq (int_cmp k k)) (Some n) (lookup (is_at (int_cmp k)) es) (compared k k ∙ int_eq-itself k))

count_later : (v k : ℤ) (n : ℕ) (es : List (ℤ × ℕ)) → int_eq v k ≡ false → count_in ((k, n) ∷ es) v ≡ count_in es v
unfolding count_in
count_later v k n es e = ap (λ o. unwrap_or o 0) (cond-false (is_eq (int_cmp v k)) (Some n) (lookup (is_at (int_cmp v)) es) (compared v k ∙ e))

count_none : (v : ℤ) → count_in [] v ≡ 0
unfolding count_in
count_none v = refl

-- what is counted is above what is below all keys
above_key : (k v : ℤ) (es : List (ℤ × ℕ)) → IsBelowAll k (keys_of es) → 0 < count_in es v → k <ℤ v
above_key k v [] low some = absurd (omega (arith, some, count_none v))
above_key k v ((q, n) ∷ es) low some =
    elim (cases_Bool (int_eq v q)) [
      | inl e ↦ subst (λ z. k <ℤ z) (sym (int_eq-true v q e)) low.0
      | inr e ↦ above_key k v es low.1 (omega (arith, some, count_later v q n es e))
    ]

record FirstIs (cs : List NumberChange) (es : List (ℤ × ℕ)) (found : Option ℤ) : Type 0 where
  some : (m : ℤ) → found ≡ Some m → times_old m cs < count_in es m
  low : (v : ℤ) → times_old v cs < count_in es v → (m : ℤ) × (found ≡ Some m) × (m ≤ℤ v)

first_is : (cs : List NumberChange) (es : List (ℤ × ℕ)) → IsRising (keys_of es) → FirstIs cs es (first_left cs es)
first_is cs [] up = record { some = λ m e. absurd cc; low = λ v lt. absurd (omega (arith, lt, count_none v)) }
first_is cs ((k, n) ∷ es) up =
    elim (cases_Bool (nat_lt (times_old k cs) n)) [
      | inl e ↦
          let lt : times_old k cs < n = grind (arith, nat_tests, e) in
          subst (λ o. FirstIs cs ((k, n) ∷ es) o) (sym (cond-true (nat_lt (times_old k cs) n) (Some k) (first_left cs es) e)) (found_here lt)
      | inr e ↦
          let le : n ≤ times_old k cs = grind (arith, nat_tests, e) in
          subst (λ o. FirstIs cs ((k, n) ∷ es) o) (sym (cond-false (nat_lt (times_old k cs) n) (Some k) (first_left cs es) e)) (found_later le (first_is cs es up.1))
    ]
  where
    some_in : (v : ℤ) (a b : ℕ) → a < b → 0 < b
    some_in v a b lt = omega (arith, lt)

    found_here : times_old k cs < n → FirstIs cs ((k, n) ∷ es) (Some k)
    found_here lt = record {
      some = λ m e. let same : k ≡ m = ap (λ o. unwrap_or o k) e in subst (λ z. times_old z cs < count_in ((k, n) ∷ es) z) same (omega (arith, lt, count_here k n es));
      low = λ v more. elim (cases_Bool (int_eq v k)) [
        | inl e ↦ let same = int_eq-true v k e in (k, refl, omega (arith, ints, same))
        | inr e ↦
            let there = count_later v k n es e in
            let above = above_key k v es up.0 (omega (arith, more, there)) in
            (k, refl, omega (arith, ints, above))
      ];
    }

    found_later : n ≤ times_old k cs → FirstIs cs es (first_left cs es) → FirstIs cs ((k, n) ∷ es) (first_left cs es)
    found_later le later = record {
      some = λ m e.
          let lt = later.some m e in
          let above = above_key k m es up.0 (omega (arith, lt)) in
          let there = count_later m k n es (int_eq-false m k (λ same. omega (arith, ints, above, same))) in
          omega (arith, lt, there);
      low = λ v more. elim (cases_Bool (int_eq v k)) [
        | inl e ↦
            let same = int_eq-true v k e in
            let here : count_in ((k, n) ∷ es) v ≡ n = subst (λ z. count_in ((k, n) ∷ es) z ≡ n) (sym same) (count_here k n es) in
            let gone = ap (λ z. times_old z cs) same in
            absurd (omega (arith, more, here, le, gone))
        | inr e ↦ later.low v (omega (arith, more, count_later v k n es e))
      ];
    }

-- ---- the lower of what was found and the new numbers
record LowestIs (found : Option ℤ) (cs : List NumberChange) (r : Option ℤ) : Type 0 where
  some : (m : ℤ) → r ≡ Some m → (found ≡ Some m) ⊎ (0 < times_new m cs)
  low_found : (a : ℤ) → found ≡ Some a → (m : ℤ) × (r ≡ Some m) × (m ≤ℤ a)
  low_new : (v : ℤ) → 0 < times_new v cs → (m : ℤ) × (r ≡ Some m) × (m ≤ℤ v)

-- one change
lower_some : (found : Option ℤ) (c : NumberChange) (m : ℤ) → lower found c ≡ Some m → (found ≡ Some m) ⊎ (c.new ≡ m)
lower_some None c m e = inr (ap (λ o. unwrap_or o m) e)
lower_some (Some a) c m e =
    let is : int_min a c.new ≡ m = ap (λ o. unwrap_or o m) e in
    elim (cases_Bool (int_lt c.new a)) [
      | inl lt ↦ inr (sym (cond-true (int_lt c.new a) c.new a lt) ∙ is)
      | inr ge ↦ inl (ap Some (sym (cond-false (int_lt c.new a) c.new a ge) ∙ is))
    ]

lower_low : (found : Option ℤ) (c : NumberChange) → (b : ℤ) × (lower found c ≡ Some b) × (b ≤ℤ c.new)
lower_low None c = (c.new, refl, omega (arith, ints))
lower_low (Some a) c = (int_min a c.new, refl, omega (arith, ints, clamps))

lower_keeps : (found : Option ℤ) (c : NumberChange) (a : ℤ) → found ≡ Some a → (b : ℤ) × (lower found c ≡ Some b) × (b ≤ℤ a)
lower_keeps found c a e = (int_min a c.new, ap (λ o. lower o c) e, omega (arith, ints, clamps))

brought : (c : NumberChange) (cs : List NumberChange) (m : ℤ) → c.new ≡ m → 0 < times_new m (c ∷ cs)
brought c cs m e =
    let one : one_at m c.new ≡ 1 = subst (λ z. one_at m z ≡ 1) (sym e) (cond-true (int_eq m m) 1 0 (int_eq-itself m)) in
    omega (arith, one, new-cons m c cs)

lowest_is : (found : Option ℤ) (cs : List NumberChange) → LowestIs found cs (lowest_with found cs)
lowest_is found [] = record {
  some = λ m e. inl e;
  low_found = λ a e. (a, e, omega (arith, ints));
  low_new = λ v lt. absurd (omega (arith, lt, new-nil v));
}
lowest_is found (c ∷ cs) =
    let later = lowest_is (lower found c) cs in
    record {
      some = λ m e. elim (later.some m e) [
        | inl first ↦ elim (lower_some found c m first) [ inl is ↦ inl is | inr is ↦ inr (brought c cs m is) ]
        | inr more ↦ inr (omega (arith, more, new-cons m c cs))
      ];
      low_found = λ a e.
          let kept = lower_keeps found c a e in
          let last = later.low_found kept.0 kept.1 in
          let le = kept.2 in
          let le' = last.2 in
          (last.0, last.1, omega (arith, ints, le, le'));
      low_new = λ v lt. elim (cases_Bool (int_eq c.new v)) [
        | inl e ↦
            let same = int_eq-true c.new v e in
            let kept = lower_low found c in
            let last = later.low_found kept.0 kept.1 in
            let le = kept.2 in
            let le' = last.2 in
            (last.0, last.1, omega (arith, ints, le, le', same))
        | inr e ↦ later.low_new v (omega (arith, lt, new-cons v c cs, cond-false {A = ℕ} (int_eq c.new v) 1 0 e))
      ];
    }

-- ---- the least of a list is known by the counts
least_low : (xs : List ℤ) (v : ℤ) → 0 < count_of v xs → least_of xs ≤ℤ v
least_low [] v some = absurd (omega (arith, some))
least_low (x ∷ []) v some =
    elim (cases_Bool (int_eq x v)) [
      | inl e ↦ let same = int_eq-true x v e in omega (arith, ints, same)
      | inr e ↦ absurd (omega (arith, some, count_of-cons v x [], cond-false {A = ℕ} (int_eq x v) 1 0 e))
    ]
least_low (x ∷ y ∷ ys) v some =
    elim (cases_Bool (int_eq x v)) [
      | inl e ↦ let same = int_eq-true x v e in omega (arith, ints, clamps, same)
      | inr e ↦
          let later = least_low (y ∷ ys) v (omega (arith, some, count_of-cons v x (y ∷ ys), cond-false {A = ℕ} (int_eq x v) 1 0 e)) in
          omega (arith, ints, clamps, later)
    ]

one_itself : (v : ℤ) → one_at v v ≡ 1
one_itself v = cond-true (int_eq v v) 1 0 (int_eq-itself v)

least_stands : (x : ℤ) (xs : List ℤ) → 0 < count_of (least_of (x ∷ xs)) (x ∷ xs)
least_stands x [] = omega (arith, count_of-cons x x [], one_itself x)
least_stands x (y ∷ ys) =
    let l = least_of (y ∷ ys) in
    elim (cases_Bool (int_lt l x)) [
      | inl lt ↦ subst (λ z. 0 < count_of z (x ∷ y ∷ ys)) (sym (cond-true (int_lt l x) l x lt)) (omega (arith, least_stands y ys, count_of-cons l x (y ∷ ys)))
      | inr ge ↦ subst (λ z. 0 < count_of z (x ∷ y ∷ ys)) (sym (cond-false (int_lt l x) l x ge)) (omega (arith, count_of-cons x x (y ∷ ys), one_itself x))
    ]

-- what stands there and is below all that stand there
least_from : (ys : List ℤ) (r : Option ℤ) → ((m : ℤ) → r ≡ Some m → 0 < count_of m ys) → ((v : ℤ) → 0 < count_of v ys → (m : ℤ) × (r ≡ Some m) × (m ≤ℤ v)) → least_of ys ≡ unwrap_or r (pos 0)
least_from [] None stands low = refl
least_from [] (Some m) stands low = absurd (omega (arith, stands m refl))
least_from (y ∷ ys) r stands low =
    let l = least_of (y ∷ ys) in
    let found = low l (least_stands y ys) in
    let other = least_low (y ∷ ys) found.0 (stands found.0 found.1) in
    let le = found.2 in
    let same : l ≡ found.0 = omega (arith, ints, le, other) in
    same ∙ sym (ap (λ o. unwrap_or o (pos 0)) found.1)

-- ---- together
cmp_less : (x y : ℤ) → int_cmp x y ≡ Less → x <ℤ y
cmp_less x y e = grind (arith, ints)

below_all-from : (x : ℤ) (ys : List ℤ) → AllByRecursion (λ y. int_cmp x y ≡ Less) ys → IsBelowAll x ys
below_all-from x [] h = tt
below_all-from x (y ∷ ys) h = (cmp_less x y h.0, below_all-from x ys h.1)

pub rising_keys : (xs : List ℤ) → IsStrictlySortedBy int_cmp xs → IsRising xs
unfolding IsStrictlySortedBy
rising_keys [] h = tt
rising_keys (x ∷ xs) h = (below_all-from x xs h.0, rising_keys xs h.1)

pub least_after : (counts : OrderedCounts) (xs : List ℤ) (cs : List NumberChange) (found : Option ℤ) (r : Option ℤ) → AreCountsOf counts xs → IsRising (keys_of counts.by_number.entries) → AreNumberChanges xs cs
    → found ≡ first_left cs counts.by_number.entries → r ≡ lowest_with found cs → lowest.value (after_number_changes xs cs) ≡ Ok (unwrap_or r (pos 0))
unfolding count_in
least_after counts xs cs found r are up h is_found is_r =
    let es = counts.by_number.entries in
    let first = subst (λ o. FirstIs cs es o) (sym is_found) (first_is cs es up) in
    let last = subst (λ o. LowestIs found cs o) (sym is_r) (lowest_is found cs) in
    ap ok (least_from (after_number_changes xs cs) r
    (λ m e. elim (last.some m e) [
      | inl is ↦
          let lt = first.some m is in
          let count = are m in
          omega (arith, lt, count, counts_after m xs cs h)
      | inr more ↦ omega (arith, more, counts_after m xs cs h, old-le m xs cs h)
    ])
    (λ v some. by_new v some (times_new v cs) refl first last))
  where
    ok : ℤ → Result ℤ RunFault
    ok x = Ok x

    by_new : (v : ℤ) → 0 < count_of v (after_number_changes xs cs) → (n : ℕ) → n ≡ times_new v cs → FirstIs cs counts.by_number.entries found → LowestIs found cs r → (m : ℤ) × (r ≡ Some m) × (m ≤ℤ v)
    by_new v some (suc n) is first last = last.low_new v (omega (arith, is))
    by_new v some zero is first last =
        let count = are v in
        let there = first.low v (omega (arith, some, is, count, counts_after v xs cs h)) in
        let end = last.low_found there.0 there.1 in
        let le = there.2 in
        let le' = end.2 in
        (end.0, end.1, omega (arith, ints, le, le'))

-- ---- a change of the counts that are kept
pub counts_turn : (before between after : OrderedCounts) (xs : List ℤ) (c : NumberChange) → AreCountsOf before xs → IsNumberChange xs c
    → ((v : ℤ) → times_kept between v ≡ (if int_eq c.new v then times_kept before v + 1 else times_kept before v))
    → ((v : ℤ) → times_kept after v ≡ (if int_eq c.old v then times_kept between v - 1 else times_kept between v)) → AreCountsOf after (set xs c.place c.new)
counts_turn before between after xs c are h come gone = counts_changed (times_kept before) (times_kept between) (times_kept after) xs c h are come gone

-- the old number is still counted once the new one is
pub old_counted : (before between : OrderedCounts) (xs : List ℤ) (c : NumberChange) → AreCountsOf before xs → IsNumberChange xs c
    → ((v : ℤ) → times_kept between v ≡ (if int_eq c.new v then times_kept before v + 1 else times_kept before v)) → 0 < times_kept between c.old
old_counted before between xs c are h come = old_kept (times_kept before) (times_kept between) (times_kept between) xs c h are come

-- ---- a walk over the counts
pub walk_found : (cs : List NumberChange) (left all rest : List (ℤ × ℕ)) (k : ℤ) (n t : ℕ) → left ≡ (k, n) ∷ rest → first_left cs left ≡ first_left cs all → t ≡ times_old k cs → t < n → Some k ≡ first_left cs all
walk_found cs left all rest k n t at same is lt =
    let test : nat_lt (times_old k cs) n ≡ true = grind (arith, nat_tests, is, lt) in
    sym (cond-true (nat_lt (times_old k cs) n) (Some k) (first_left cs rest) test) ∙ ap (first_left cs) (sym at) ∙ same

pub walk_passed : (cs : List NumberChange) (left all rest : List (ℤ × ℕ)) (k : ℤ) (n t : ℕ) → left ≡ (k, n) ∷ rest → first_left cs left ≡ first_left cs all → t ≡ times_old k cs → n ≤ t → first_left cs rest ≡ first_left cs all
walk_passed cs left all rest k n t at same is le =
    let test : nat_lt (times_old k cs) n ≡ false = grind (arith, nat_tests, is, le) in
    sym (cond-false (nat_lt (times_old k cs) n) (Some k) (first_left cs rest) test) ∙ ap (first_left cs) (sym at) ∙ same
