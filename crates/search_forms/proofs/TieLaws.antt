-- The ties of a part are those of the candidates that are kept.
use Rattle.std.proofs.Common.{◌≡◌, refl, sym, ap, ◌∙◌, ℕ, suc, ◌+◌, ℤ, Bool, true, false, List, [], ◌∷◌, ◌++◌, Option, Some, None, length, map, filter, filter_map, arith}
use Rattle.std.specs.Prelude.{cond, if◌then◌else◌}
use Rattle.std.specs.Int.{int_max, int_min}
use Rattle.std.specs.List.{cons_option, reduce}
use Rattle.std.specs.Ordering.{int_eq}
use Rattle.cbl_operations.specs.Operations.Least.{least_of}
use Rattle.cbl_operations.specs.Operations.Greatest.{greatest_of}
use Rattle.comet_syntax.specs.declared.tree.expressions.Extreme.{Extreme}
use Rattle.comet_syntax.specs.declared.tree.expressions.Extreme.TheVariants.{Min, Max}
use Rattle.comet_meaning.specs.Selection as meant
use Rattle.comet_meaning.specs.Selection.{Rated, having, numbers_of, ties_of}
use Rattle.ls_select.specs.Best.{is_best}
use Rattle.ls_select.specs.Parts.{key_in, keys_of, part_of, is_tied, tied_from}
use Rattle.ls_select.specs.declared.scored.End.{End}
use Rattle.ls_select.specs.declared.scored.End.TheVariants.{Skipped, Kept, Stopped}
use Rattle.ls_select.specs.declared.scored.Scored.{Scored}
use Rattle.ls_select.specs.declared.want.Want.{Want}
use Rattle.ls_select.specs.declared.want.Want.TheVariants.{Any, Least, Greatest}
use Rattle.ls_select.proofs.BestLaws.{either, min_chooses, max_chooses, reduce_append}
use Rattle.search_forms.specs.Asking.{want_of}
use Rattle.search_forms.specs.Scans.{kept_of, kept_with, rated_by}

-- ---- one more candidate

one_kept : (n : ℕ) (e : End) → kept_with n e [] ≡ rated_by n e []
one_kept n Skipped = refl
one_kept n (Kept key) = refl
one_kept n (Stopped stop) = refl

kept_before : (n k : ℕ) (e f : End) (xs : List Rated) → kept_with n e (rated_by k f xs) ≡ rated_by k f (kept_with n e xs)
kept_before n k Skipped f xs = refl
kept_before n k (Kept key) Skipped xs = refl
kept_before n k (Kept key) (Kept other) xs = refl
kept_before n k (Kept key) (Stopped stop) xs = refl
kept_before n k (Stopped stop) f xs = refl

pub kept_more : (n : ℕ) (ss : List Scored) (s : Scored) → kept_of n (ss ++ s ∷ []) ≡ rated_by (n + length ss) s.end (kept_of n ss)
kept_more n [] s = one_kept n s.end ∙ ap (λ k. rated_by k s.end []) (let z : n ≡ n + 0 = omega arith in z)
kept_more n (t ∷ ss) s =
    ap (kept_with n t.end) (kept_more (n + 1) ss s)
    ∙ kept_before n (n + 1 + length ss) t.end s.end (kept_of (n + 1) ss)
    ∙ ap (λ k. rated_by k s.end (kept_with n t.end (kept_of (n + 1) ss))) (let z : n + 1 + length ss ≡ n + suc (length ss) = omega arith in z)

-- ---- where any will do

any_with : (n : ℕ) (e : End) (ts : List ℕ) (xs : List Rated) → ts ≡ numbers_of xs → (if is_tied Any None e then n ∷ ts else ts) ≡ numbers_of (kept_with n e xs)
any_with n Skipped ts xs h = h
any_with n (Kept key) ts xs h = ap (λ ks. n ∷ ks) h
any_with n (Stopped stop) ts xs h = h

any_tied : (n : ℕ) (ss : List Scored) → tied_from Any None n ss ≡ numbers_of (kept_of n ss)
any_tied n [] = refl
any_tied n (s ∷ ss) = any_with n s.end _ _ (any_tied (n + 1) ss)

-- ---- where the best key is asked

-- the test of a best key is equality
abbrev AsksEqual : Want → Type 0
AsksEqual want = (best key : ℤ) → is_best want (Some best) key ≡ int_eq key best

abbrev AsksNone : Want → Type 0
AsksNone want = (key : ℤ) → is_best want None key ≡ false

module _ (want : Want) (equal : AsksEqual want) (none : AsksNone want) where
  by_equal : (n : ℕ) (b : Bool) (r : Rated) (ts : List ℕ) (ys : List Rated) → r.number ≡ n → ts ≡ numbers_of ys → (if b then n ∷ ts else ts) ≡ numbers_of (cond b (r ∷ ys) ys)
  by_equal n true r ts ys e h = ap (λ k. k ∷ ts) (sym e) ∙ ap (λ ks. r.number ∷ ks) h
  by_equal n false r ts ys e h = h

  best_with : (best : ℤ) (n : ℕ) (e : End) (ts : List ℕ) (xs : List Rated) → ts ≡ numbers_of (having best xs) → (if is_tied want (Some best) e then n ∷ ts else ts) ≡ numbers_of (having best (kept_with n e xs))
  best_with best n Skipped ts xs h = h
  best_with best n (Kept key) ts xs h = ap (λ b. if b then n ∷ ts else ts) (equal best key) ∙ by_equal n (int_eq key best) (record { number = n; key = key }) ts (having best xs) refl h
  best_with best n (Stopped stop) ts xs h = h

  best_tied : (best : ℤ) (n : ℕ) (ss : List Scored) → tied_from want (Some best) n ss ≡ numbers_of (having best (kept_of n ss))
  best_tied best n [] = refl
  best_tied best n (s ∷ ss) = best_with best n s.end _ _ (best_tied best (n + 1) ss)

  none_with : (n : ℕ) (e : End) (ts : List ℕ) → ts ≡ [] → (if is_tied want None e then n ∷ ts else ts) ≡ []
  none_with n Skipped ts h = h
  none_with n (Kept key) ts h = ap (λ b. if b then n ∷ ts else ts) (none key) ∙ h
  none_with n (Stopped stop) ts h = h

  none_tied : (n : ℕ) (ss : List Scored) → tied_from want None n ss ≡ []
  none_tied n [] = refl
  none_tied n (s ∷ ss) = none_with n s.end _ (none_tied (n + 1) ss)

  no_rated : (k : ℤ) (xs : List Rated) → meant.keys_of xs ≡ [] → numbers_of (having k xs) ≡ []
  no_rated k [] h = refl
  no_rated k (x ∷ xs) h = let d : ◌≡◌ {A = List ℤ} (x.key ∷ meant.keys_of xs) [] = h in cc

  -- the best key of some keys, if there are some
  abbrev IsBestOf : (List ℤ → ℤ) → (List ℤ → Option ℤ) → Type 0
  IsBestOf least best = (best [] ≡ None) × ((k : ℤ) (ks : List ℤ) → best (k ∷ ks) ≡ Some (least (k ∷ ks)))

  tied_so : (least : List ℤ → ℤ) (best : List ℤ → Option ℤ) → IsBestOf least best → (ks : List ℤ) (ss : List Scored) (xs : List Rated) → xs ≡ kept_of 0 ss → meant.keys_of xs ≡ ks → tied_from want (best ks) 0 ss ≡ numbers_of (having (least ks) xs)
  tied_so least best is [] ss xs same h = ap (λ o. tied_from want o 0 ss) is.0 ∙ none_tied 0 ss ∙ sym (no_rated (least []) xs h)
  tied_so least best is (k ∷ ks) ss xs same h =
      ap (λ o. tied_from want o 0 ss) (is.1 k ks) ∙ best_tied (least (k ∷ ks)) 0 ss ∙ ap (λ ys. numbers_of (having (least (k ∷ ks)) ys)) (sym same)

keys_with : (n : ℕ) (e : End) (ks : List ℤ) (xs : List Rated) → ks ≡ meant.keys_of xs → cons_option (key_in e) ks ≡ meant.keys_of (kept_with n e xs)
keys_with n Skipped ks xs h = h
keys_with n (Kept key) ks xs h = ap (λ zs. key ∷ zs) h
keys_with n (Stopped stop) ks xs h = h

keys_same : (n : ℕ) (ss : List Scored) → keys_of ss ≡ meant.keys_of (kept_of n ss)
keys_same n [] = refl
keys_same n (s ∷ ss) = keys_with n s.end _ _ (keys_same (n + 1) ss)

least_reduced : (k : ℤ) (ks : List ℤ) → reduce int_min (k ∷ ks) ≡ Some (least_of (k ∷ ks))
least_reduced k [] = refl
least_reduced k (j ∷ ks) = reduce_append int_min min_chooses (k ∷ []) (j ∷ ks) ∙ ap (either int_min (Some k)) (least_reduced j ks)

greatest_reduced : (k : ℤ) (ks : List ℤ) → reduce int_max (k ∷ ks) ≡ Some (greatest_of (k ∷ ks))
greatest_reduced k [] = refl
greatest_reduced k (j ∷ ks) = reduce_append int_max max_chooses (k ∷ []) (j ∷ ks) ∙ ap (either int_max (Some k)) (greatest_reduced j ks)

-- the ties of all candidates that were scored
pub ties_are : (x : Option Extreme) (ss : List Scored) → (part_of (want_of x) 0 ss).ties ≡ ties_of x (kept_of 0 ss)
ties_are None ss = any_tied 0 ss
ties_are (Some Min) ss =
    ap (λ ks. tied_from Least (reduce int_min ks) 0 ss) (keys_same 0 ss)
    ∙ tied_so Least (λ best key. refl) (λ key. refl) least_of (reduce int_min) (refl, least_reduced) (meant.keys_of (kept_of 0 ss)) ss (kept_of 0 ss) refl refl
ties_are (Some Max) ss =
    ap (λ ks. tied_from Greatest (reduce int_max ks) 0 ss) (keys_same 0 ss)
    ∙ tied_so Greatest (λ best key. refl) (λ key. refl) greatest_of (reduce int_max) (refl, greatest_reduced) (meant.keys_of (kept_of 0 ss)) ss (kept_of 0 ss) refl refl
