-- Marks for the numbers that were gone through: each at its first time alone.
use Rattle.std.proofs.Common.{◌≡◌, ◌⊎◌, inl, inr, ℕ, zero, suc, ◌+◌, ◌<◌, ◌≤◌, Bool, true, false, List, [], ◌∷◌, ◌++◌, Some, None, length, length-set, get_or, take, replicate, refl, sym, ap, ◌∙◌, subst, arith, slice_get, Contains}
use native.Mathlib.Decide.{ℕ_discrete}
use Rattle.std.specs.Prelude.{unwrap_or}
use Rattle.std.specs.Bool.{OnTrue}
use Rattle.std.specs.List.{list_all}
use Rattle.std.proofs.lemmas.Option.{slice_get_within, get_or_from_slice_get}
use Rattle.std.proofs.lemmas.List.{take_all, take_more}
use Rattle.std.proofs.lemmas.List.Elements.{Contains-append_left, Contains-append_cases, Contains-push}
use Rattle.cbl_base.proofs.PlaceLemmas.{others_stay}
use Rattle.term_model.specs.Naming.{AreMarked, IsMarkedFirst, NamesEachOnce}
use Rattle.term_model.proofs.UsableLaws.{less_there, no_member}
use Rattle.term_model.proofs.VarLaws.{set_same}

contains_got : (xs : List ℕ) (k d : ℕ) → slice_get xs k ≡ Some d → Contains xs d
contains_got xs k d e = (k, slice_get_within xs k d e, get_or_from_slice_get xs k d d e)

pub contains_one : (d e : ℕ) → Contains (d ∷ []) e → e ≡ d
contains_one d e (zero, lt, at) = sym at
contains_one d e (suc i, lt, at) = absurd (omega (arith, lt))

-- an entry is one of those before, or the last
pub last_or : {X : Type 0} (xs : List X) (d : X) (k : ℕ) (x : X) → slice_get (xs ++ d ∷ []) k ≡ Some x → (slice_get xs k ≡ Some x) ⊎ ((k ≡ length xs) × (x ≡ d))
last_or [] d zero x e = inr (refl, sym (ap (λ o. unwrap_or o d) e))
last_or [] d (suc k) x e = let c : None ≡ Some x = e in cc
last_or (y ∷ xs) d zero x e = inl e
last_or (y ∷ xs) d (suc k) x e = elim (last_or xs d k x e) [ inl h ↦ inl h | inr h ↦ inr (ap suc h.0, h.1) ]

module _ (so_far : List ℕ) (d : ℕ) (old new : List Bool) (are : AreMarked so_far old) (first : IsMarkedFirst old new d) where
  long : length new ≡ length old
  long = ap length first.1 ∙ length-set old d true

  there : slice_get new d ≡ Some true
  there = ap (λ ms. slice_get ms d) first.1 ∙ set_same old d true (less_there old d false first.0)

  elsewhere : (e : ℕ) → (e ≡ d → ⊥) → slice_get new e ≡ slice_get old e
  elsewhere e ne = ap (λ ms. slice_get ms e) first.1 ∙ others_stay old d e true ne

  within_at : (k x : ℕ) → (slice_get so_far k ≡ Some x) ⊎ ((k ≡ length so_far) × (x ≡ d)) → x < length new
  within_at k x (inl h) = let lt = are.within k x h in omega (arith, lt, long)
  within_at k x (inr h) = let lt = less_there old d false first.0 in omega (arith, lt, long, h.1)

  not_before : (k x : ℕ) → slice_get so_far k ≡ Some x → x ≡ d → ⊥
  not_before k x h same = are.not_yet d first.0 (subst (Contains so_far) same (contains_got so_far k x h))

  once_at : (j k x : ℕ) → (slice_get so_far j ≡ Some x) ⊎ ((j ≡ length so_far) × (x ≡ d)) → (slice_get so_far k ≡ Some x) ⊎ ((k ≡ length so_far) × (x ≡ d)) → j ≡ k
  once_at j k x (inl h) (inl i) = are.once j k x h i
  once_at j k x (inl h) (inr i) = absurd (not_before j x h i.1)
  once_at j k x (inr h) (inl i) = absurd (not_before k x i h.1)
  once_at j k x (inr h) (inr i) = h.0 ∙ sym i.0

  stood_at : (e : ℕ) → Dec (e ≡ d) → slice_get new e ≡ Some true → Contains (so_far ++ d ∷ []) e
  stood_at e (yes same) h = subst (Contains (so_far ++ d ∷ [])) (sym same) (Contains-push so_far d)
  stood_at e (no ne) h = Contains-append_left so_far (d ∷ []) e (are.stood e (sym (elsewhere e ne) ∙ h))

  not_yet_at : (e : ℕ) → Dec (e ≡ d) → slice_get new e ≡ Some false → Contains so_far e ⊎ Contains (d ∷ []) e → ⊥
  not_yet_at e (yes same) h c = let no' : Some true ≡ Some false = sym there ∙ ap (slice_get new) (sym same) ∙ h in cc
  not_yet_at e (no ne) h (inl c) = are.not_yet e (sym (elsewhere e ne) ∙ h) c
  not_yet_at e (no ne) h (inr c) = ne (contains_one d e c)

  marked_push : AreMarked (so_far ++ d ∷ []) new
  marked_push = record {
    within = λ k x e. within_at k x (last_or so_far d k x e);
    once = λ j k x e f. once_at j k x (last_or so_far d j x e) (last_or so_far d k x f);
    stood = λ e h. stood_at e (ℕ_discrete e d) h;
    not_yet = λ e h c. not_yet_at e (ℕ_discrete e d) h (Contains-append_cases so_far (d ∷ []) e c);
  }

pub marked_more : (numbers : List ℕ) (k d : ℕ) (old new : List Bool) → k < length numbers → d ≡ get_or numbers k 0 → AreMarked (take k numbers) old → IsMarkedFirst old new d → AreMarked (take (k + 1) numbers) new
marked_more numbers k d old new lt is are first =
    subst (λ ns. AreMarked ns new) (sym (take_more numbers k 0 lt ∙ ap (λ x. take k numbers ++ x ∷ []) (sym is))) (marked_push (take k numbers) d old new are first)

none_true : (count d : ℕ) → slice_get (replicate count false) d ≡ Some true → ⊥
none_true zero d e = let c : None ≡ Some true = e in cc
none_true (suc count) zero e = let c : Some false ≡ Some true = e in cc
none_true (suc count) (suc d) e = none_true count d e

pub marked_none : (count : ℕ) (marks : List Bool) → marks ≡ replicate count false → AreMarked [] marks
marked_none count marks e = record {
  within = λ k d h. let c : None ≡ Some d = h in cc;
  once = λ j k d h i. let c : None ≡ Some d = h in cc;
  stood = λ d h. absurd (none_true count d (ap (λ ms. slice_get ms d) (sym e) ∙ h));
  not_yet = λ d h c. no_member d c;
}

at_true : (marks : List Bool) (d : ℕ) → list_all (λ m. m) marks ≡ true → d < length marks → slice_get marks d ≡ Some true
at_true [] d all lt = absurd (omega arith)
at_true (true ∷ marks) zero all lt = refl
at_true (true ∷ marks) (suc d) all lt = at_true marks d all (omega arith)
at_true (false ∷ marks) d all lt = let c : false ≡ true = all in cc

named_all : (numbers : List ℕ) (count : ℕ) (marks : List Bool) (b : Bool) → AreMarked numbers marks → length marks ≡ count → b ≡ list_all (λ m. m) marks → OnTrue b (NamesEachOnce numbers count)
named_all numbers count marks false are counted e = tt
named_all numbers count marks true are counted e = record {
  within = λ k d h. subst (λ n. d < n) counted (are.within k d h);
  once = are.once;
  all = λ d lt. are.stood d (at_true marks d (sym e) (subst (λ n. d < n) (sym counted) lt));
}

pub named_once : (numbers : List ℕ) (k count : ℕ) (marks : List Bool) (b : Bool) → length numbers ≤ k → AreMarked (take k numbers) marks → length marks ≡ count → b ≡ list_all (λ m. m) marks → OnTrue b (NamesEachOnce numbers count)
named_once numbers k count marks b le are counted e = named_all numbers count marks b (subst (λ ns. AreMarked ns marks) (take_all k numbers le) are) counted e
