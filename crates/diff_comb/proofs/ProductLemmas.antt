-- The products of members and weights, as a member or a weight changes.
use Rattle.std.proofs.Common.{◌≡◌, ◌≢◌, ℕ, zero, suc, ◌+◌, ◌-◌, ◌*◌, ◌<◌, ◌≤◌, ◌^◌, ℤ, pos, negsuc, neg_ℤ, ◌+ℤ◌, ◌-ℤ◌, ◌*ℤ◌, ◌≤ℤ◌, Bool, true, false, nat_lt, inl, inr, List, [], ◌∷◌, ◌++◌, length, get_or, set, map, Result, Ok, Err, refl, ap, sym, ◌∙◌, subst, arith}
use Rattle.std.specs.Prelude.{sum_by, if◌then◌else◌}
use Rattle.std.specs.List.{list_all, range_with_len}
use Rattle.std.proofs.Math.IntN.{*ℤ_comm}
use Rattle.std.proofs.lemmas.Bool.{cases_Bool, cond-true, cond-false}
use Rattle.std.proofs.lemmas.Bool.Decides.{nat_tests}
use Rattle.std.proofs.lemmas.Int.{ints}
use Rattle.std.proofs.lemmas.List.{map-set, length-map, get_or-set_same, get_or-set_other}
use Rattle.std.proofs.lemmas.List.Sums.{sum_by-set, sum_by-cons, sum_by-append}
use Rattle.cbl_base.specs.Arithmetic.{exact, fits_64}
use Rattle.cbl_base.specs.Totals.{total, total_by}
use Rattle.cbl_base.specs.declared.faults.RunFault.{RunFault}
use Rattle.cbl_base.specs.declared.faults.RunFault.TheVariants.{Overflow}
use Rattle.cbl_base.proofs.TotalLemmas.{total-set, total_by-append}
use Rattle.cbl_violations.specs.Fitting.{each_below}
use Rattle.cbl_violations.specs.Violations.WeightedTotal.{weighted_member, weighted_total_value}
use Rattle.node_base.specs.NumberChanges.{IsNumberChange, after_number_change, after_number_changes}
use Rattle.node_base.specs.declared.number_change.NumberChange.{NumberChange}
use Rattle.node_base.proofs.ChangeLemmas.{number_within, number_read}
use Rattle.node_count.specs.After.{number_after}
use Rattle.node_count.proofs.AfterLemmas.{number_read_after, read_any}
use Rattle.diff_comb.specs.Products.{part, misfit, one_if_fault, products_of, other_place, AreTotals, IsSmall}
use Rattle.diff_comb.specs.declared.weighted_total.Products.{Products}

-- ---- lists over indices
same_over : (f g : ℕ → ℤ) (a n : ℕ) → ((j : ℕ) → a ≤ j → j < a + n → f j ≡ g j) → map f (range_with_len a n) ≡ map g (range_with_len a n)
same_over f g a zero same = refl
same_over f g a (suc n) same = ap (λ x. x ∷ map f (range_with_len (a + 1) n)) (same a (omega arith) (omega arith)) ∙ ap (λ t. g a ∷ t) (same_over f g (a + 1) n (λ j le lt. same j (omega arith) (omega arith)))

-- only what one index gives is another
one_changed : (f g : ℕ → ℤ) (a n k : ℕ) → ((j : ℕ) → a ≤ j → j < a + n → j ≢ a + k → f j ≡ g j) → k < n → map f (range_with_len a n) ≡ set (map g (range_with_len a n)) k (f (a + k))
one_changed f g a zero k same lt = absurd (omega arith)
one_changed f g a (suc n) zero same lt =
    let here : a + 0 ≡ a = omega arith in
    rw here (ap (λ t. f a ∷ t) (same_over f g (a + 1) n (λ j le below. same j (omega arith) (omega arith) (λ e. omega (arith, e, le)))))
one_changed f g a (suc n) (suc k) same lt =
    let step : a + suc k ≡ (a + 1) + k = omega arith in
    rw step
    (ap (λ x. x ∷ map f (range_with_len (a + 1) n)) (same a (omega arith) (omega arith) (λ e. omega (arith, e)))
    ∙ ap (λ t. g a ∷ t) (one_changed f g (a + 1) n k (λ j le below ne. same j (omega arith) (omega arith) (λ e. ne (omega (arith, e)))) (omega arith)))

read_over : (g : ℕ → ℤ) (a n k : ℕ) (d : ℤ) → k < n → get_or (map g (range_with_len a n)) k d ≡ g (a + k)
read_over g a zero k d lt = absurd (omega arith)
read_over g a (suc n) zero d lt = let here : a ≡ a + 0 = omega arith in ap g here
read_over g a (suc n) (suc k) d lt = let step : (a + 1) + k ≡ a + suc k = omega arith in read_over g (a + 1) n k d (omega arith) ∙ ap g step

one_more : (g : ℕ → ℤ) (a n : ℕ) → map g (range_with_len a (n + 1)) ≡ map g (range_with_len a n) ++ g (a + n) ∷ []
one_more g a zero = let here : a ≡ a + 0 = omega arith in ap (λ j. g j ∷ []) here
one_more g a (suc n) =
    let count : suc n + 1 ≡ suc (n + 1) = omega arith in
    let step : (a + 1) + n ≡ a + suc n = omega arith in
    rw count (ap (λ t. g a ∷ t) (one_more g (a + 1) n) ∙ ap (λ j. g a ∷ map g (range_with_len (a + 1) n) ++ g j ∷ []) step)

length_over : (g : ℕ → ℤ) (a n : ℕ) → length (map g (range_with_len a n)) ≡ n
length_over g a zero = refl
length_over g a (suc n) = ap suc (length_over g (a + 1) n)

-- ---- parts and misfits
fit_or_not : (z : ℤ) → (fits_64 z ≡ true → part z ≡ z × misfit z ≡ 0) × (fits_64 z ≡ false → part z ≡ pos 0 × misfit z ≡ 1)
fit_or_not z =
    let r : Bool → Result ℤ RunFault = λ b. if b then Ok z else Err Overflow in
    (λ e. (ap (λ b. Rattle.std.specs.Result.result_unwrap_or (r b) (pos 0)) e, ap (λ b. one_if_fault (r b)) e), λ e. (ap (λ b. Rattle.std.specs.Result.result_unwrap_or (r b) (pos 0)) e, ap (λ b. one_if_fault (r b)) e))

fit_bounds : (z : ℤ) → fits_64 z ≡ true → (neg_ℤ (pos (2 ^ 63)) ≤ℤ z) × (z ≤ℤ pos (2 ^ 63))
fit_bounds (pos n) e = let lt : n < 2 ^ 63 = grind (arith, nat_tests, e) in (omega (arith, ints), omega (arith, ints, lt))
fit_bounds (negsuc n) e = let lt : n < 2 ^ 63 = grind (arith, nat_tests, e) in (omega (arith, ints, lt), omega (arith, ints))

part_bounds : (z : ℤ) → (neg_ℤ (pos (2 ^ 63)) ≤ℤ part z) × (part z ≤ℤ pos (2 ^ 63))
part_bounds z =
    elim (cases_Bool (fits_64 z)) [
      | inl e ↦ let is = ((fit_or_not z).0 e).0 in let bounds = fit_bounds z e in (omega (arith, ints, is, bounds.0), omega (arith, ints, is, bounds.1))
      | inr e ↦ let is = ((fit_or_not z).1 e).0 in (omega (arith, ints, is), omega (arith, ints, is))
    ]

parts_bounds : (zs : List ℤ) → (neg_ℤ (pos (length zs * 2 ^ 63)) ≤ℤ total_by part zs) × (total_by part zs ≤ℤ pos (length zs * 2 ^ 63))
parts_bounds [] = (omega (arith, ints), omega (arith, ints))
parts_bounds (z ∷ zs) =
    let one = part_bounds z in
    let rest = parts_bounds zs in
    (omega (arith, ints, one.0, rest.0), omega (arith, ints, one.1, rest.1))

misfit-le : (z : ℤ) → misfit z ≤ 1
misfit-le z = elim (cases_Bool (fits_64 z)) [ inl e ↦ omega (arith, ((fit_or_not z).0 e).1) | inr e ↦ omega (arith, ((fit_or_not z).1 e).1) ]

misfits-le : (zs : List ℤ) → sum_by misfit zs ≤ length zs
misfits-le [] = omega arith
misfits-le (z ∷ zs) = omega (arith, misfit-le z, misfits-le zs, sum_by-cons misfit z zs)

-- few products have a small total, and few misfits
pub small_and_few : (products : Products) (zs : List ℤ) → AreTotals products zs → length zs < 2 ^ 62 → IsSmall products.fitting × (products.unfit < 2 ^ 63)
small_and_few products zs are few =
    let bounds = parts_bounds zs in
    let is = are.fitting in
    let count = are.unfit in
    let most = misfits-le zs in
    (record { low = omega (arith, ints, bounds.0, is, few); high = omega (arith, ints, bounds.1, is, few) }, omega (arith, count, most, few))

-- ---- the value
all_fit : (zs : List ℤ) → sum_by misfit zs ≡ 0 → (list_all fits_64 zs ≡ true) × (total_by part zs ≡ total zs)
all_fit [] e = (refl, refl)
all_fit (z ∷ zs) e =
    elim (cases_Bool (fits_64 z)) [
      | inl fit ↦
          let later = all_fit zs (omega (arith, e, sum_by-cons misfit z zs)) in
          let is = ((fit_or_not z).0 fit).0 in
          (grind (arith, fit, later.0), ap (λ y. y +ℤ total_by part zs) is ∙ ap (λ t. z +ℤ t) later.1)
      | inr unfit ↦ absurd (omega (arith, e, sum_by-cons misfit z zs, ((fit_or_not z).1 unfit).1))
    ]

some_unfit : (zs ys : List ℤ) → 0 < sum_by misfit zs → list_all fits_64 (zs ++ ys) ≡ false
some_unfit [] ys lt = absurd (omega (arith, lt))
some_unfit (z ∷ zs) ys lt =
    elim (cases_Bool (fits_64 z)) [
      | inl fit ↦
          let later = some_unfit zs ys (omega (arith, lt, sum_by-cons misfit z zs, ((fit_or_not z).0 fit).1)) in
          grind (arith, fit, later)
      | inr unfit ↦ grind (arith, unfit)
    ]

all_of_append : (zs : List ℤ) (t : ℤ) → list_all fits_64 zs ≡ true → list_all fits_64 (zs ++ t ∷ []) ≡ fits_64 t
all_of_append [] t e = grind arith
all_of_append (z ∷ zs) t e =
    elim (cases_Bool (fits_64 z)) [
      | inl fit ↦ let later = all_of_append zs t (grind (arith, e, fit)) in grind (arith, fit, later)
      | inr unfit ↦ absurd (Rattle.std.proofs.lemmas.Bool.both_ways false refl (grind (arith, e, unfit)))
    ]

pub total_fits : (products : Products) (members : ℕ) (inputs : List ℤ) → AreTotals products (products_of members inputs) → products.unfit ≡ 0 → exact products.fitting ≡ weighted_total_value members inputs
unfolding weighted_total_value
total_fits products members inputs are none =
    let zs = products_of members inputs in
    let all = all_fit zs (sym are.unfit ∙ none) in
    ap exact (are.fitting ∙ all.1) ∙ ap (λ b. if b then Ok (total zs) else Err Overflow) (sym (all_of_append zs (total zs) all.0))

pub total_unfit : (products : Products) (members : ℕ) (inputs : List ℤ) → AreTotals products (products_of members inputs) → (products.unfit ≡ 0 → ⊥) → Err Overflow ≡ weighted_total_value members inputs
unfolding weighted_total_value
total_unfit products members inputs are some =
    let zs = products_of members inputs in
    let more = are.unfit in
    let lt : 0 < sum_by misfit zs = omega (arith, more, some) in
    ap (λ b. if b then Ok (total zs) else Err Overflow) (sym (some_unfit zs (total zs ∷ []) lt))

-- ---- a change
pub totals_set : (old new : Products) (zs : List ℤ) (k : ℕ) (z y : ℤ) → AreTotals old zs → k < length zs → get_or zs k (pos 0) ≡ z → new.fitting ≡ (old.fitting -ℤ part z) +ℤ part y → new.unfit + misfit z ≡ old.unfit + misfit y → AreTotals new (set zs k y)
totals_set old new zs k z y are lt at fitting unfit =
    let parts = ap total (map-set part zs k y) ∙ total-set (map part zs) k (part y) (part (pos 0)) (omega (arith, lt, length-map zs part)) in
    let here : get_or (map part zs) k (part (pos 0)) ≡ part z = get_map zs k lt ∙ ap part at in
    let counts = sum_by-set misfit zs k y (pos 0) lt in
    let count : misfit (get_or zs k (pos 0)) ≡ misfit z = ap misfit at in
    let was = are.unfit in
    record {
      fitting = fitting ∙ ap (λ t. (t -ℤ part z) +ℤ part y) are.fitting ∙ ap (λ w. (total_by part zs -ℤ w) +ℤ part y) (sym here) ∙ sym parts;
      unfit = omega (arith, unfit, counts, count, was);
    }
  where
    get_map : (zs : List ℤ) (k : ℕ) → k < length zs → get_or (map part zs) k (part (pos 0)) ≡ part (get_or zs k (pos 0))
    get_map [] k lt = absurd (omega arith)
    get_map (z ∷ zs) zero lt = refl
    get_map (z ∷ zs) (suc k) lt = get_map zs k (omega arith)

pub misfit_counted : (products : Products) (zs : List ℤ) (k : ℕ) (z : ℤ) → AreTotals products zs → k < length zs → get_or zs k (pos 0) ≡ z → misfit z ≤ products.unfit
misfit_counted products zs k z are lt at =
    let counts = sum_by-set misfit zs k (pos 0) (pos 0) lt in
    let count : misfit (get_or zs k (pos 0)) ≡ misfit z = ap misfit at in
    let zero_fits : misfit (pos 0) ≡ 0 = refl in
    let was = are.unfit in
    omega (arith, counts, count, zero_fits, was)

-- the product that a change changes, and what it was and becomes
pub record ProductTurn (members : ℕ) (xs : List ℤ) (c : NumberChange) (factor : ℤ) : Type 0 where
  pub item : ℕ
  pub within : item < members
  pub was : get_or (products_of members xs) item (pos 0) ≡ c.old *ℤ factor
  pub now : products_of members (after_number_change xs c) ≡ set (products_of members xs) item (c.new *ℤ factor)

module _ (members : ℕ) (xs : List ℤ) (c : NumberChange) (factor : ℤ) (long : length xs ≡ members + members) (is : IsNumberChange xs c) (at : factor ≡ get_or xs (other_place members c.place) (pos 0)) where
  ys : List ℤ
  ys = after_number_change xs c

  of_member : nat_lt c.place members ≡ true → ProductTurn members xs c factor
  unfolding ys
  of_member e =
      let lt : c.place < members = grind (arith, nat_tests, e) in
      let there : factor ≡ get_or xs (members + c.place) (pos 0) =
      at ∙ ap (λ p. get_or xs p (pos 0)) (cond-true (nat_lt c.place members) (c.place + members) (c.place - members) e ∙ omega arith) in
      let within = number_within xs c is in
      let here : 0 + c.place ≡ c.place = omega arith in
      let same : (j : ℕ) → 0 ≤ j → j < 0 + members → j ≢ 0 + c.place → weighted_member members ys j ≡ weighted_member members xs j =
      λ j low below ne. ap (λ x. x *ℤ get_or ys (members + j) (pos 0)) (get_or-set_other xs c.place j c.new (pos 0) (λ e. ne (omega (arith, e))))
      ∙ ap (λ x. get_or xs j (pos 0) *ℤ x) (get_or-set_other xs c.place (members + j) c.new (pos 0) (λ e. omega (arith, e, lt))) in
      let made : weighted_member members ys c.place ≡ c.new *ℤ factor =
      ap (λ x. x *ℤ get_or ys (members + c.place) (pos 0)) (get_or-set_same xs c.place c.new (pos 0) within)
      ∙ ap (λ x. c.new *ℤ x) (get_or-set_other xs c.place (members + c.place) c.new (pos 0) (λ e. omega (arith, e, lt)) ∙ sym there) in
      record {
        item = c.place;
        within = lt;
        was = read_over (weighted_member members xs) 0 members c.place (pos 0) lt ∙ ap (weighted_member members xs) here ∙ ap (λ x. x *ℤ get_or xs (members + c.place) (pos 0)) (number_read xs c (pos 0) is) ∙ ap (λ x. c.old *ℤ x) (sym there);
        now = one_changed (weighted_member members ys) (weighted_member members xs) 0 members c.place same lt ∙ ap (λ j. set (products_of members xs) c.place (weighted_member members ys j)) here ∙ ap (set (products_of members xs) c.place) made;
      }

  of_weight : nat_lt c.place members ≡ false → ProductTurn members xs c factor
  unfolding ys
  of_weight e =
      let le : members ≤ c.place = grind (arith, nat_tests, e) in
      let within = number_within xs c is in
      let k = c.place - members in
      let lt : k < members = omega (arith, le, within, long) in
      let back : members + k ≡ c.place = omega (arith, le) in
      let here : 0 + k ≡ k = omega arith in
      let there : factor ≡ get_or xs k (pos 0) = at ∙ ap (λ p. get_or xs p (pos 0)) (cond-false (nat_lt c.place members) (c.place + members) (c.place - members) e) in
      let same : (j : ℕ) → 0 ≤ j → j < 0 + members → j ≢ 0 + k → weighted_member members ys j ≡ weighted_member members xs j =
      λ j low below ne. ap (λ x. x *ℤ get_or ys (members + j) (pos 0)) (get_or-set_other xs c.place j c.new (pos 0) (λ e. omega (arith, e, le, below)))
      ∙ ap (λ x. get_or xs j (pos 0) *ℤ x) (get_or-set_other xs c.place (members + j) c.new (pos 0) (λ e. ne (omega (arith, e, le)))) in
      let made : weighted_member members ys k ≡ c.new *ℤ factor =
      ap (λ p. get_or ys k (pos 0) *ℤ get_or ys p (pos 0)) back
      ∙ ap (λ x. x *ℤ get_or ys c.place (pos 0)) (get_or-set_other xs c.place k c.new (pos 0) (λ e. omega (arith, e, le, lt)) ∙ sym there)
      ∙ ap (λ x. factor *ℤ x) (get_or-set_same xs c.place c.new (pos 0) within)
      ∙ *ℤ_comm factor c.new in
      record {
        item = k;
        within = lt;
        was = read_over (weighted_member members xs) 0 members k (pos 0) lt ∙ ap (weighted_member members xs) here ∙ ap (λ p. get_or xs k (pos 0) *ℤ get_or xs p (pos 0)) back
            ∙ ap (λ x. get_or xs k (pos 0) *ℤ x) (number_read xs c (pos 0) is) ∙ ap (λ x. x *ℤ c.old) (sym there) ∙ *ℤ_comm factor c.old;
        now = one_changed (weighted_member members ys) (weighted_member members xs) 0 members k same lt ∙ ap (λ j. set (products_of members xs) k (weighted_member members ys j)) here ∙ ap (set (products_of members xs) k) made;
      }

  pub product_turn : ProductTurn members xs c factor
  product_turn = elim (cases_Bool (nat_lt c.place members)) [ inl e ↦ of_member e | inr e ↦ of_weight e ]

-- what a loop over members adds
pub one_product_more : (products new : Products) (g : ℕ → ℤ) (k : ℕ) → AreTotals products (each_below k g) → new.fitting ≡ products.fitting +ℤ part (g k) → new.unfit ≡ products.unfit + misfit (g k) → AreTotals new (each_below (k + 1) g)
one_product_more products new g k are fitting unfit =
    let more = one_more g 0 k in
    let here : 0 + k ≡ k = omega arith in
    let parts = ap (total_by part) more ∙ total_by-append part (each_below k g) (g (0 + k) ∷ []) in
    let counts = ap (sum_by misfit) more ∙ sum_by-append misfit (each_below k g) (g (0 + k) ∷ []) in
    let last = ap (λ j. part (g j)) here in
    let count = ap (λ j. misfit (g j)) here in
    let single = sum_by-cons misfit (g (0 + k)) [] in
    let was = are.fitting in
    let had = are.unfit in
    record { fitting = omega (arith, ints, fitting, was, parts, last); unfit = omega (arith, unfit, had, counts, count, single) }

pub length-products_of : (members : ℕ) (xs : List ℤ) → length (products_of members xs) ≡ members
length-products_of members xs = length_over (weighted_member members xs) 0 members

pub small_below : (products : Products) (g : ℕ → ℤ) (k : ℕ) → AreTotals products (each_below k g) → k < 2 ^ 62 → IsSmall products.fitting × (products.unfit < 2 ^ 63)
small_below products g k are few = small_and_few products (each_below k g) are (subst (λ n. n < 2 ^ 62) (sym (length_over g 0 k)) few)

-- the totals after a change
pub totals_turn : (old new : Products) (members : ℕ) (xs : List ℤ) (c : NumberChange) (factor : ℤ) → AreTotals old (products_of members xs) → length xs ≡ members + members → IsNumberChange xs c → factor ≡ get_or xs (other_place members c.place) (pos 0)
    → new.fitting ≡ (old.fitting -ℤ part (c.old *ℤ factor)) +ℤ part (c.new *ℤ factor) → new.unfit + misfit (c.old *ℤ factor) ≡ old.unfit + misfit (c.new *ℤ factor)
    → AreTotals new (products_of members (after_number_change xs c))
totals_turn old new members xs c factor are long is at fitting unfit =
    let turn = product_turn members xs c factor long is at in
    subst (λ zs. AreTotals new zs) (sym turn.now)
    (totals_set old new (products_of members xs) turn.item (c.old *ℤ factor) (c.new *ℤ factor) are (subst (λ n. turn.item < n) (sym (length-products_of members xs)) turn.within) turn.was fitting unfit)

pub counted_turn : (old : Products) (members : ℕ) (xs : List ℤ) (c : NumberChange) (factor : ℤ) → AreTotals old (products_of members xs) → length xs ≡ members + members → IsNumberChange xs c → factor ≡ get_or xs (other_place members c.place) (pos 0)
    → misfit (c.old *ℤ factor) ≤ old.unfit
counted_turn old members xs c factor are long is at =
    let turn = product_turn members xs c factor long is at in
    misfit_counted old (products_of members xs) turn.item (c.old *ℤ factor) are (subst (λ n. turn.item < n) (sym (length-products_of members xs)) turn.within) turn.was

pub small_turn : (products : Products) (members : ℕ) (xs : List ℤ) → AreTotals products (products_of members xs) → members < 2 ^ 62 → IsSmall products.fitting × (products.unfit < 2 ^ 63)
small_turn products members xs are few = small_and_few products (products_of members xs) are (omega (arith, few, length-products_of members xs))

-- the other factor, by what it was before the changes so far
pub factor_turn : (xs : List ℤ) (cs : List NumberChange) (other place : ℕ) (was factor : ℤ) → other ≡ place → other < length xs → was ≡ get_or xs other was → factor ≡ number_after other was cs → factor ≡ get_or (after_number_changes xs cs) place (pos 0)
factor_turn xs cs other place was factor same lt at is =
    is ∙ ap (λ x. number_after other x cs) (read_any xs other was lt at) ∙ sym (number_read_after xs cs other (pos 0) lt) ∙ ap (λ p. get_or (after_number_changes xs cs) p (pos 0)) same
