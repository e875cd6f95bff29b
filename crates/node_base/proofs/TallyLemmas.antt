-- How often a number stands in a list, before and after a change.
use Rattle.std.proofs.Common.{◌≡◌, ℕ, ◌+◌, ◌-◌, ◌<◌, ◌≤◌, ◌^◌, ℤ, Bool, true, false, cond, if◌then◌else◌, List, length, get_or, refl, ap, ◌∙◌, arith}
use Rattle.std.specs.Prelude.{Some, None, unwrap_or}
use Rattle.std.specs.List.{remove}
use Rattle.std.specs.Map.{lookup}
use Rattle.std.specs.Ordering.{int_eq}
use Rattle.std.proofs.lemmas.List.Sums.{sum_by-remove}
use Rattle.cbl_base.specs.Counts.{count_of}
use Rattle.cbl_base.proofs.CountLemmas.{one_at, count_of-set, count_of-le-length}
use Rattle.cbl_base.proofs.SetLemmas.{int_eq-itself, int_eq-true}
use Rattle.node_base.specs.declared.number_change.NumberChange.{NumberChange}
use Rattle.node_base.specs.NumberChanges.{after_number_change, IsNumberChange}
use Rattle.node_base.specs.Counting.{count_elsewhere, count_over, Shows, ShowsChange, IsWritten}
use Rattle.node_base.specs.KeptCounts.{place_in_window, count_at, counted, AreCountsOf}
use Rattle.node_base.proofs.ChangeLemmas.{number_within, number_read}

pub one_at-itself : (v : ℤ) → one_at v v ≡ 1
one_at-itself v = ap (λ b. cond b 1 0) (int_eq-itself v)

-- one place is taken out
pub count_of-remove : (v : ℤ) (xs : List ℤ) (p : ℕ) (d : ℤ) → p < length xs → count_of v xs ≡ count_of v (remove xs p) + one_at v (get_or xs p d)
count_of-remove v xs p d lt = let all = sum_by-remove (λ x. cond (int_eq x v) 1 0) xs p d lt in omega (arith, all)

-- ---- at a change of what stands there
module _ (xs : List ℤ) (c : NumberChange) (h : IsNumberChange xs c) where
  -- before it
  pub count_before : (v : ℤ) → count_of v xs ≡ count_elsewhere xs c.place v + one_at v c.old
  count_before v = count_of-remove v xs c.place c.old (number_within xs c h) ∙ ap (λ x. count_elsewhere xs c.place v + one_at v x) (number_read xs c c.old h)

  -- and after it
  pub count_after : (v : ℤ) → count_of v (after_number_change xs c) ≡ count_elsewhere xs c.place v + one_at v c.new
  count_after v =
      let write = count_of-set v xs c.place c.new c.old (number_within xs c h) in
      let read = ap (λ x. one_at v x) (number_read xs c c.old h) in
      omega (arith, count_before v, write, read)

  pub old_elsewhere : count_of c.old xs ≡ count_elsewhere xs c.place c.old + 1
  old_elsewhere = count_before c.old ∙ ap (λ n. count_elsewhere xs c.place c.old + n) (one_at-itself c.old)

  pub new_elsewhere : count_of c.new (after_number_change xs c) ≡ count_elsewhere xs c.place c.new + 1
  new_elsewhere = count_after c.new ∙ ap (λ n. count_elsewhere xs c.place c.new + n) (one_at-itself c.new)

  pub old_stands : 0 < count_of c.old xs
  old_stands = omega (arith, old_elsewhere)

  pub elsewhere-le : (v : ℤ) → count_elsewhere xs c.place v ≤ length xs
  elsewhere-le v = omega (arith, count_before v, count_of-le-length v xs)

-- ---- counts in a list for the numbers of a window
-- the count of a number outside
pub counted_off : (low : ℤ) (window : List ℕ) (outside : ℤ → ℕ) (v : ℤ) → place_in_window low (length window) v ≡ None → counted low window outside v ≡ outside v
counted_off low window outside v at = ap (count_at window outside v) at

-- ---- counts that are kept as a function
-- one more or less of a number, as an update
more_is : (n : ℕ) (y v : ℤ) → (if int_eq y v then n + 1 else n) ≡ n + one_at v y
more_is n y v = by_test (int_eq y v)
  where
    by_test : (b : Bool) → (if b then n + 1 else n) ≡ n + cond b 1 0
    by_test true = refl
    by_test false = omega arith

less_is : (n : ℕ) (y v : ℤ) → (if int_eq y v then n - 1 else n) ≡ n - one_at v y
less_is n y v = by_test (int_eq y v)
  where
    by_test : (b : Bool) → (if b then n - 1 else n) ≡ n - cond b 1 0
    by_test true = refl
    by_test false = omega arith

-- one more of the new number, and then one less of the old
module _ (f g k : ℤ → ℕ) (xs : List ℤ) (c : NumberChange) (h : IsNumberChange xs c) (are : AreCountsOf f xs) (up : (v : ℤ) → g v ≡ (if int_eq c.new v then f v + 1 else f v)) where
  pub old_kept : 0 < g c.old
  old_kept = omega (arith, are c.old, up c.old ∙ more_is (f c.old) c.new c.old, old_stands xs c h)

  pub counts_changed : ((v : ℤ) → k v ≡ (if int_eq c.old v then g v - 1 else g v)) → AreCountsOf k (after_number_change xs c)
  counts_changed down v =
      omega (arith, are v, up v ∙ more_is (f v) c.new v, down v ∙ less_is (g v) c.old v, count_before xs c h v, count_after xs c h v)

-- ---- counts over a list
-- a count that is written
pub count_over-written : (xs : List ℤ) (kept kept' : List (ℤ × ℕ)) (y : ℤ) (n : ℕ) → IsWritten kept kept' y n → (v : ℤ) → count_over xs kept' v ≡ (if int_eq y v then n else count_over xs kept v)
count_over-written xs kept kept' y n up v = ap (λ o. unwrap_or o (count_of v xs)) (up v) ∙ by_test (int_eq y v)
  where
    by_test : (b : Bool) → unwrap_or (if b then Some n else lookup (λ k. int_eq v k) kept) (count_of v xs) ≡ (if b then n else count_over xs kept v)
    by_test true = refl
    by_test false = refl

-- a count that is written one less, or one more
written_less : (f g : ℤ → ℕ) (y : ℤ) → ((v : ℤ) → g v ≡ (if int_eq y v then f y - 1 else f v)) → (v : ℤ) → g v ≡ f v - one_at v y
written_less f g y up v = up v ∙ by_test (int_eq y v) (λ t. int_eq-true y v t)
  where
    by_test : (b : Bool) → (b ≡ true → y ≡ v) → (if b then f y - 1 else f v) ≡ f v - cond b 1 0
    by_test true same = ap (λ z. f z - 1) (same refl)
    by_test false same = omega arith

written_more : (f g : ℤ → ℕ) (y : ℤ) → ((v : ℤ) → g v ≡ (if int_eq y v then f y + 1 else f v)) → (v : ℤ) → g v ≡ f v + one_at v y
written_more f g y up v = up v ∙ by_test (int_eq y v) (λ t. int_eq-true y v t)
  where
    by_test : (b : Bool) → (b ≡ true → y ≡ v) → (if b then f y + 1 else f v) ≡ f v + cond b 1 0
    by_test true same = ap (λ z. f z + 1) (same refl)
    by_test false same = omega arith

-- the old number's count is written one less, and then the new one's one more
module _ (xs : List ℤ) (kept kept' kept'' : List (ℤ × ℕ)) (c : NumberChange) (down : IsWritten kept kept' c.old (count_over xs kept c.old - 1)) where
  less : (v : ℤ) → count_over xs kept' v ≡ count_over xs kept v - one_at v c.old
  less = written_less (count_over xs kept) (count_over xs kept') c.old (count_over-written xs kept kept' c.old (count_over xs kept c.old - 1) down)

  pub no_more : (v : ℤ) → count_over xs kept' v ≤ count_over xs kept v
  no_more v = omega (arith, less v)

  pub shows_change : IsWritten kept' kept'' c.new (count_over xs kept' c.new + 1) → ShowsChange xs kept kept'' c (record { old = count_over xs kept c.old - 1; new = count_over xs kept' c.new })
  shows_change up ys are h = (changed, record { old = omega (arith, are c.old, old_elsewhere ys c h); new = without c.new })
    where
      without : (v : ℤ) → count_over xs kept' v ≡ count_elsewhere ys c.place v
      without v = omega (arith, less v, are v, count_before ys c h v)

      more : (v : ℤ) → count_over xs kept'' v ≡ count_over xs kept' v + one_at v c.new
      more = written_more (count_over xs kept') (count_over xs kept'') c.new (count_over-written xs kept' kept'' c.new (count_over xs kept' c.new + 1) up)

      changed : Shows xs kept'' (after_number_change ys c)
      changed v = omega (arith, more v, without v, count_after ys c h v)

pub shown_stands : (xs : List ℤ) (kept : List (ℤ × ℕ)) (ys : List ℤ) (c : NumberChange) → Shows xs kept ys → IsNumberChange ys c → 0 < count_over xs kept c.old
shown_stands xs kept ys c shows h = omega (arith, shows c.old, old_stands ys c h)

pub shown_room : (xs : List ℤ) (kept : List (ℤ × ℕ)) (ys : List ℤ) (v : ℤ) → Shows xs kept ys → length ys < 2 ^ 63 → count_over xs kept v + 1 < 2 ^ 64
shown_room xs kept ys v shows few = omega (arith, shows v, count_of-le-length v ys)
