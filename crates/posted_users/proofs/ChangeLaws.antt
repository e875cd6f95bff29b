-- Changes from a list of numbers to another, one place after another.
use Rattle.std.proofs.Common.{◌≡◌, ℕ, ℤ, zero, suc, ◌+◌, ◌<◌, List, [], ◌∷◌, ◌++◌, length, get_or, set, refl, sym, ap, ◌∙◌, arith}
use Rattle.std.specs.Prelude.{Bool, true, false, Some, if◌then◌else◌, slice_get}
use Rattle.std.specs.Ordering.{int_eq}
use Rattle.std.proofs.lemmas.Bool.Decides.{Decides-int_eq}
use Rattle.cbl_base.specs.Changes.{AreChanges, NoneAt, after_change, after_changes, place_of}
use Rattle.cbl_base.specs.Inputs.{as_inputs}
use Rattle.cbl_base.specs.declared.input.Change.{Change}
use Rattle.cbl_base.specs.declared.input.Change.TheVariants.{Int as IntChange, Set as SetChange}
use Rattle.cbl_base.specs.declared.input.Input.{Input}
use Rattle.cbl_base.specs.declared.input.Input.TheVariants.{Int}
use Rattle.posted_users.specs.Moving.{with_change}

-- the first numbers of a list, and then those of another behind them
abbrev pub mixed : ℕ → List ℤ → List ℤ → List ℤ
mixed zero held list = held
mixed (suc i) [] list = []
mixed (suc i) (h ∷ hs) [] = []
mixed (suc i) (h ∷ hs) (x ∷ xs) = x ∷ mixed i hs xs

pub mixed_all : (held list : List ℤ) → length list ≡ length held → mixed (length held) held list ≡ list
mixed_all [] [] e = refl
mixed_all [] (x ∷ xs) e = absurd (omega (arith, e))
mixed_all (h ∷ hs) [] e = absurd (omega (arith, e))
mixed_all (h ∷ hs) (x ∷ xs) e = ap (λ ys. x ∷ ys) (mixed_all hs xs (omega (arith, e)))

pub mixed_same : (i : ℕ) (held list : List ℤ) (d : ℤ) → i < length held → length list ≡ length held → get_or held i d ≡ get_or list i d → mixed (suc i) held list ≡ mixed i held list
mixed_same i [] list d lt e same = absurd (omega (arith, lt))
mixed_same i (h ∷ hs) [] d lt e same = absurd (omega (arith, e))
mixed_same zero (h ∷ hs) (x ∷ xs) d lt e same = ap (λ y. y ∷ hs) (sym same)
mixed_same (suc i) (h ∷ hs) (x ∷ xs) d lt e same = ap (λ ys. x ∷ ys) (mixed_same i hs xs d (omega (arith, lt)) (omega (arith, e)) same)

pub mixed_set : (i : ℕ) (held list : List ℤ) (d : ℤ) → i < length held → length list ≡ length held → set (mixed i held list) i (get_or list i d) ≡ mixed (suc i) held list
mixed_set i [] list d lt e = absurd (omega (arith, lt))
mixed_set i (h ∷ hs) [] d lt e = absurd (omega (arith, e))
mixed_set zero (h ∷ hs) (x ∷ xs) d lt e = refl
mixed_set (suc i) (h ∷ hs) (x ∷ xs) d lt e = ap (λ ys. x ∷ ys) (mixed_set i hs xs d (omega (arith, lt)) (omega (arith, e)))

next : (i : ℕ) → suc i ≡ i + 1
next i = omega arith

-- ---- numbers as inputs
inputs_set : (xs : List ℤ) (i : ℕ) (x : ℤ) → set (as_inputs xs) i (Int x) ≡ as_inputs (set xs i x)
inputs_set [] i x = refl
inputs_set (y ∷ ys) zero x = refl
inputs_set (y ∷ ys) (suc i) x = ap (λ zs. Int y ∷ zs) (inputs_set ys i x)

input_at : (xs : List ℤ) (i : ℕ) (d : ℤ) → i < length xs → slice_get (as_inputs xs) i ≡ Some (Int (get_or xs i d))
input_at [] i d lt = absurd (omega (arith, lt))
input_at (x ∷ xs) zero d lt = refl
input_at (x ∷ xs) (suc i) d lt = input_at xs i d (omega (arith, lt))

-- ---- the changes so far: each below the place that comes next, and they lead to the mixed list
abbrev pub AreBelow : ℕ → List Change → Type 0
AreBelow i [] = Unit {0}
AreBelow i (c ∷ cs) = (place_of c < i) × AreBelow i cs

below_more : (i : ℕ) (cs : List Change) → AreBelow i cs → AreBelow (i + 1) cs
below_more i [] h = tt
below_more i (c ∷ cs) h = (omega (arith, h.0), below_more i cs h.1)

below_push : (i : ℕ) (old new : ℤ) (cs : List Change) → AreBelow i cs → AreBelow (i + 1) (cs ++ IntChange i old new ∷ [])
below_push i old new [] h = (omega arith, tt)
below_push i old new (c ∷ cs) h = (omega (arith, h.0), below_push i old new cs h.1)

none_at : (i : ℕ) (old new : ℤ) (place : ℕ) (cs : List Change) → place < i → NoneAt place cs → NoneAt place (cs ++ IntChange i old new ∷ [])
none_at i old new place [] lt h = (λ e. omega (arith, lt, e), tt)
none_at i old new place (c ∷ cs) lt h = (h.0, none_at i old new place cs lt h.1)

changes_push : (xs : List Input) (i : ℕ) (old new : ℤ) (cs : List Change) → slice_get xs i ≡ Some (Int old) → AreBelow i cs → AreChanges xs cs → AreChanges xs (cs ++ IntChange i old new ∷ [])
changes_push xs i old new [] there below are = (there, tt, tt)
changes_push xs i old new (c ∷ cs) there below are = (are.0, none_at i old new (place_of c) cs below.0 are.1, changes_push xs i old new cs there below.1 are.2)

after_push : (xs : List Input) (cs : List Change) (c : Change) → after_changes xs (cs ++ c ∷ []) ≡ after_change (after_changes xs cs) c
after_push xs [] c = refl
after_push xs (d ∷ cs) c = after_push (after_change xs d) cs c

pub record LeadTo (held list : List ℤ) (i : ℕ) (cs : List Change) : Type 0 where
  pub below : AreBelow i cs
  pub are : AreChanges (as_inputs held) cs
  pub after : after_changes (as_inputs held) cs ≡ as_inputs (mixed i held list)

pub changes_skip : (held list : List ℤ) (i : ℕ) (cs : List Change) (d : ℤ) → i < length held → length list ≡ length held → get_or held i d ≡ get_or list i d → LeadTo held list i cs → LeadTo held list (i + 1) cs
changes_skip held list i cs d lt e same lead = record {
  below = below_more i cs lead.below;
  are = lead.are;
  after = lead.after ∙ ap as_inputs (sym (mixed_same i held list d lt e same) ∙ ap (λ k. mixed k held list) (next i));
}

pub changes_more : (held list : List ℤ) (i : ℕ) (cs : List Change) (d : ℤ) → i < length held → length list ≡ length held → LeadTo held list i cs → LeadTo held list (i + 1) (cs ++ IntChange i (get_or held i d) (get_or list i d) ∷ [])
changes_more held list i cs d lt e lead = record {
  below = below_push i (get_or held i d) (get_or list i d) cs lead.below;
  are = changes_push (as_inputs held) i (get_or held i d) (get_or list i d) cs (input_at held i d lt) lead.below lead.are;
  after = after_push (as_inputs held) cs (IntChange i (get_or held i d) (get_or list i d)) ∙ ap (λ ys. set ys i (Int (get_or list i d))) lead.after ∙ inputs_set (mixed i held list) i (get_or list i d)
      ∙ ap as_inputs (mixed_set i held list d lt e ∙ ap (λ k. mixed k held list) (next i));
}

pub changes_after : (held list : List ℤ) (cs : List Change) → length list ≡ length held → LeadTo held list (length held) cs → after_changes (as_inputs held) cs ≡ as_inputs list
changes_after held list cs e lead = lead.after ∙ ap as_inputs (mixed_all held list e)

pub changes_step : (held list : List ℤ) (i : ℕ) (cs : List Change) (d : ℤ) → i < length held → length list ≡ length held → LeadTo held list i cs → LeadTo held list (i + 1) (with_change cs i (get_or held i d) (get_or list i d))
changes_step held list i cs d lt e lead = by (int_eq (get_or held i d) (get_or list i d)) refl
  where
    by : (b : Bool) → int_eq (get_or held i d) (get_or list i d) ≡ b → LeadTo held list (i + 1) (if b then cs else cs ++ IntChange i (get_or held i d) (get_or list i d) ∷ [])
    by true h = changes_skip held list i cs d lt e ((Decides-int_eq (get_or held i d) (get_or list i d)).0 h) lead
    by false h = changes_more held list i cs d lt e lead
