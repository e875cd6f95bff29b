-- Lists of levels by their places, and what a level that is kept over them shows.
use Rattle.std.proofs.Common.{◌≡◌, ◌≢◌, ℕ, ◌+◌, ◌<◌, ◌≤◌, ℤ, true, false, cond, List, length, get_or, set, refl, ap, sym, ◌∙◌, subst, arith, Less, Greater, ◌⊎◌, inl, inr}
use Rattle.std.specs.Prelude.{Some, None, unwrap_or}
use Rattle.std.specs.Ordering.{nat_cmp, is_eq}
use Rattle.std.specs.Cmp.{nat_cmp_is}
use Rattle.std.specs.BTreeMap.{get, is_at}
use Rattle.std.proofs.lemmas.Bool.Decides.{nat_tests}
use Rattle.std.proofs.lemmas.List.FromFn.{get_or-map-range_with_len}
use Rattle.diff_load_seq.specs.Levels.{flat, level_at, raised, is_between, raised_between}
use Rattle.diff_load_seq.specs.LevelsOver.{level_over, shown}
use Rattle.diff_load_seq.specs.declared.levels.Level.{Level}
use Rattle.diff_load_seq.specs.declared.levels_over.LevelsOver.{LevelsOver}
use Rattle.diff_load_seq.proofs.PlaceLists.{at_place, length_by_place, is_by_place, set_by_place}

-- ---- levels that are kept over others
pub nothing_kept : (levels : List Level) (over : LevelsOver) → ((k : ℕ) → get nat_cmp over.raised k ≡ None) → shown levels over ≡ levels
nothing_kept levels over none = sym (is_by_place flat levels (length levels) (level_over levels over) refl (λ k lt. sym (ap (λ o. unwrap_or o (level_at levels k)) (none k))))

pub one_kept : (levels : List Level) (over after : LevelsOver) (k : ℕ) (y : Level) → k < length levels
    → get nat_cmp after.raised k ≡ Some y
    → ((q : ℕ) → is_at (nat_cmp k) q ≡ false → get nat_cmp after.raised q ≡ get nat_cmp over.raised q)
    → shown levels after ≡ set (shown levels over) k y
one_kept levels over after k y h here there = sym (set_by_place flat (length levels) (level_over levels over) (level_over levels after) k y h
    (sym (ap (λ o. unwrap_or o (level_at levels k)) here))
    (λ q apart. sym (ap (λ o. unwrap_or o (level_at levels q)) (there q (other q apart)))))
  where
    below_or_above : (q : ℕ) → q ≢ k → (k < q) ⊎ (q < k)
    below_or_above q apart = grind arith

    other : (q : ℕ) → q ≢ k → is_at (nat_cmp k) q ≡ false
    other q apart = elim (below_or_above q apart) [
      | inl lt ↦ sym (ap is_eq (nat_cmp_is k q Less lt))
      | inr gt ↦ sym (ap is_eq (nat_cmp_is k q Greater gt))
    ]

pub length_shown : (levels : List Level) (over : LevelsOver) → length (shown levels over) ≡ length levels
length_shown levels over = length_by_place flat (length levels) (level_over levels over)

-- the level that was asked for stands in the list that is shown
pub shown_read : (levels : List Level) (over : LevelsOver) (k : ℕ) (level : Level) → k < length levels → level ≡ level_over levels over k → level ≡ get_or (shown levels over) k level
shown_read levels over k level h is = is ∙ sym (get_or-map-range_with_len (level_over levels over) 0 (length levels) k k level h (omega arith))

-- ---- levels that are raised one after another
module _ (first : ℕ) (by : ℤ) (levels : List Level) where
  between_at : ℕ → ℕ → Level
  between_at last k = cond (is_between first last k) (raised by (level_at levels k)) (level_at levels k)

  pub between_start : raised_between first first by levels ≡ levels
  unfolding between_at
  between_start = sym (is_by_place flat levels (length levels) (between_at first) refl (λ k lt. sym (ap (λ b. cond b (raised by (level_at levels k)) (level_at levels k)) (none k))))
    where
      none : (k : ℕ) → is_between first first k ≡ false
      none k = grind (arith, nat_tests)

  pub between_here : (last : ℕ) → last < length levels → level_at (raised_between first last by levels) last ≡ level_at levels last
  unfolding between_at
  between_here last h = at_place flat (length levels) (between_at last) last h ∙ ap (λ b. cond b (raised by (level_at levels last)) (level_at levels last)) none
    where
      none : is_between first last last ≡ false
      none = grind (arith, nat_tests)

  pub between_more : (last : ℕ) → first ≤ last → last < length levels
      → set (raised_between first last by levels) last (raised by (level_at levels last)) ≡ raised_between first (last + 1) by levels
  unfolding between_at
  between_more last order h = set_by_place flat (length levels) (between_at last) (between_at (last + 1)) last (raised by (level_at levels last)) h
      (sym (ap (λ b. cond b (raised by (level_at levels last)) (level_at levels last)) here))
      (λ q apart. ap (λ b. cond b (raised by (level_at levels q)) (level_at levels q)) (same q apart))
    where
      here : is_between first (last + 1) last ≡ true
      here = grind (arith, nat_tests)

      same : (q : ℕ) → q ≢ last → is_between first last q ≡ is_between first (last + 1) q
      same q apart = grind (arith, nat_tests)

  pub length_between : (last : ℕ) → length (raised_between first last by levels) ≡ length levels
  unfolding between_at
  length_between last = length_by_place flat (length levels) (between_at last)

  -- in a loop, at the level `last`
  module _ (current : List Level) (last : ℕ) (h : last < length levels) (is : current ≡ raised_between first last by levels) where
    pub between_within : last < length current
    between_within = subst (λ n. last < n) (sym (ap length is ∙ length_between last)) h

    pub between_still : level_at current last ≡ level_at levels last
    between_still = ap (λ ls. level_at ls last) is ∙ between_here last h

    pub between_next : first ≤ last → set current last (raised by (level_at current last)) ≡ raised_between first (last + 1) by levels
    between_next order =
        ap (λ level. set current last (raised by level)) between_still ∙ ap (λ ls. set ls last (raised by (level_at levels last))) is ∙ between_more last order h
