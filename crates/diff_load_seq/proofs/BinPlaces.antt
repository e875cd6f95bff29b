-- The place of a bin, and what it is to raise the bin there.
use Rattle.std.proofs.Common.{◌≡◌, ◌≢◌, ℕ, zero, suc, ◌<◌, ◌≤◌, ℤ, pos, negsuc, ◌+ℤ◌, ◌-ℤ◌, Bool, true, false, cond, List, [], ◌∷◌, length, get_or, set, refl, ap, sym, ◌∙◌, subst, arith, ◌⊎◌, inl, inr}
use Rattle.std.specs.Prelude.{Some, None, nat_lt}
use Rattle.std.specs.Ordering.{int_eq}
use Rattle.std.specs.Option.{unwrap_or}
use Rattle.std.proofs.lemmas.Int.{ints}
use Rattle.std.proofs.lemmas.Bool.{false_from_ne_true, both_ways}
use Rattle.std.proofs.lemmas.Bool.Decides.{nat_tests, Decides-int_eq}
use Rattle.std.proofs.lemmas.List.{length-set, get_or-set_same, get_or-set_other}
use Rattle.cbl_violations.specs.Bounds.{bound_of, entry_at}
use Rattle.cbl_violations.proofs.BoundLemmas.{bound_at}
use Rattle.diff_load_seq.specs.Levels.{flat, level_at, raised}
use Rattle.diff_load_seq.specs.Bins.{index_below, place_of_bin, bin_raised}
use Rattle.diff_load_seq.specs.declared.levels.Level.{Level}
use Rattle.diff_load_seq.proofs.PlaceLists.{is_by_place}

-- a bin that has a place
pub record HasPlace (low : ℤ) (bins : ℕ) (bin : ℤ) (k : ℕ) : Type 0 where
  pub within : k < bins
  pub is : bin ≡ (low +ℤ pos k)

found_at : (low : ℤ) (bins : ℕ) (bin : ℤ) (j k : ℕ) → (bin -ℤ low) ≡ pos j → (b : Bool) → nat_lt j bins ≡ b → cond b (Some j) None ≡ Some k → HasPlace low bins bin k
found_at low bins bin j k e true t found =
    let same : j ≡ k = ap (λ o. unwrap_or o j) found in
    record { within = grind (arith, nat_tests, same); is = omega (arith, ints, e, same) }
found_at low bins bin j k e false t found = absurd (cc found)

pub bin_found : (low : ℤ) (bins : ℕ) (bin : ℤ) (k : ℕ) → place_of_bin low bins bin ≡ Some k → HasPlace low bins bin k
bin_found low bins bin k found = by_index (bin -ℤ low) refl found
  where
    by_index : (z : ℤ) → (bin -ℤ low) ≡ z → index_below bins z ≡ Some k → HasPlace low bins bin k
    by_index (pos j) e f = found_at low bins bin j k e (nat_lt j bins) refl f
    by_index (negsuc j) e f = absurd (cc f)

-- a bin that has none is no bin
pub bin_lost : (low : ℤ) (bins : ℕ) (bin : ℤ) → place_of_bin low bins bin ≡ None → (q : ℕ) → q < bins → bin ≢ (low +ℤ pos q)
bin_lost low bins bin lost q within e = by_test (nat_lt q bins) (nat_lt_true q within)
    (sym (ap (index_below bins) (index q e)) ∙ lost)
  where
    index : (q : ℕ) → bin ≡ (low +ℤ pos q) → (bin -ℤ low) ≡ pos q
    index q e = omega (arith, ints, e)

    nat_lt_true : (q : ℕ) → q < bins → nat_lt q bins ≡ true
    nat_lt_true q h = grind (arith, nat_tests)

    by_test : (b : Bool) → b ≡ true → cond b (Some q) None ≡ None → ⊥
    by_test true t f = cc f
    by_test false t f = both_ways false refl t

-- the bound of a bin is that at its place
pub bound_found : (low : ℤ) (bounds : List ℤ) (bin : ℤ) (k : ℕ) → HasPlace low (length bounds) bin k → bound_of low bounds bin ≡ Some (get_or bounds k (pos 0))
bound_found low bounds bin k at = ap (bound_of low bounds) at.is ∙ bound_at low bounds k at.within

pub bound_lost : (low : ℤ) (bounds : List ℤ) (bin : ℤ) → place_of_bin low (length bounds) bin ≡ None → bound_of low bounds bin ≡ None
bound_lost low bounds bin lost = by_index (bin -ℤ low) lost
  where
    past : (xs : List ℤ) (j : ℕ) → length xs ≤ j → entry_at (pos j) xs ≡ None
    past [] j h = refl
    past (x ∷ xs) zero h = absurd (omega (arith, h))
    past (x ∷ xs) (suc j) h = past xs j (omega (arith, h))

    over : (j : ℕ) → nat_lt j (length bounds) ≡ false → length bounds ≤ j
    over j t = grind (arith, nat_tests)

    by_test : (j : ℕ) (b : Bool) → nat_lt j (length bounds) ≡ b → cond b (Some j) None ≡ None → entry_at (pos j) bounds ≡ None
    by_test j true t f = absurd (cc f)
    by_test j false t f = past bounds j (over j t)

    by_index : (z : ℤ) → index_below (length bounds) z ≡ None → entry_at z bounds ≡ None
    by_index (pos j) f = by_test j (nat_lt j (length bounds)) refl f
    by_index (negsuc j) f = refl

-- ---- the bin is raised
int_eq_true : (x y : ℤ) → x ≡ y → int_eq x y ≡ true
int_eq_true x y e = (Decides-int_eq x y).1 e

int_eq_false : (x y : ℤ) → x ≢ y → int_eq x y ≡ false
int_eq_false x y ne = false_from_ne_true _ (λ t. ne ((Decides-int_eq x y).0 t))

module _ (low bin by : ℤ) (levels : List Level) where
  pub raised_found : (k : ℕ) → HasPlace low (length levels) bin k → set levels k (raised by (level_at levels k)) ≡ bin_raised low bin by levels
  raised_found k at = is_by_place flat (set levels k (raised by (level_at levels k))) (length levels)
      (λ q. cond (int_eq bin (low +ℤ pos q)) (raised by (level_at levels q)) (level_at levels q)) (length-set levels k (raised by (level_at levels k)))
      (λ q lt. elim (same_or_not q) [
        | inl same ↦ subst (λ r. level_at (set levels k (raised by (level_at levels k))) r ≡ cond (int_eq bin (low +ℤ pos r)) (raised by (level_at levels r)) (level_at levels r)) (sym same)
            (get_or-set_same levels k (raised by (level_at levels k)) flat at.within
            ∙ sym (ap (λ b. cond b (raised by (level_at levels k)) (level_at levels k)) (int_eq_true bin (low +ℤ pos k) at.is)))
        | inr apart ↦ get_or-set_other levels k q (raised by (level_at levels k)) flat apart
            ∙ sym (ap (λ b. cond b (raised by (level_at levels q)) (level_at levels q)) (int_eq_false bin (low +ℤ pos q) (other q apart)))
      ])
    where
      same_or_not : (q : ℕ) → (q ≡ k) ⊎ (q ≢ k)
      same_or_not q = grind arith

      other : (q : ℕ) → q ≢ k → bin ≢ (low +ℤ pos q)
      other q apart e = apart (places q (sym e ∙ at.is))
        where
          places : (q : ℕ) → (low +ℤ pos q) ≡ (low +ℤ pos k) → q ≡ k
          places q e = omega (arith, ints, e)

  pub raised_lost : place_of_bin low (length levels) bin ≡ None → levels ≡ bin_raised low bin by levels
  raised_lost lost = is_by_place flat levels (length levels)
      (λ q. cond (int_eq bin (low +ℤ pos q)) (raised by (level_at levels q)) (level_at levels q)) refl
      (λ q lt. sym (ap (λ b. cond b (raised by (level_at levels q)) (level_at levels q)) (int_eq_false bin (low +ℤ pos q) (bin_lost low (length levels) bin lost q lt))))
