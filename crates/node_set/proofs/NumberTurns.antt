-- In a loop over changes of inputs that are all numbers: what the change at hand is.
use Rattle.std.proofs.Common.{◌≡◌, ℕ, zero, suc, ◌+◌, ◌<◌, ℤ, pos, List, [], ◌∷◌, length, get_or, set, take, refl, ap, sym, ◌∙◌, subst, arith}
use Rattle.std.specs.Prelude.{Some, slice_get}
use Rattle.cbl_base.specs.Changes.{after_change, after_changes, IsChange, IsEdit, AreChanges}
use Rattle.cbl_base.specs.Inputs.{as_inputs}
use Rattle.cbl_base.specs.declared.input.Input.{Input}
use Rattle.cbl_base.specs.declared.input.Input.TheVariants.{Int}
use Rattle.cbl_base.specs.declared.input.Change.{Change}
use Rattle.cbl_base.specs.declared.input.Change.TheVariants.{Int as IntChange, Set as SetChange}
use Rattle.cbl_base.proofs.InputLemmas.{change_now, change_next}

-- at the place stands the old number, and then the new one
pub record NumberTurn (xs : List ℤ) (place : ℕ) (old new : ℤ) (next : List Input) : Type 0 where
  pub within : place < length xs
  pub there : get_or xs place (pos 0) ≡ old
  pub after : as_inputs (set xs place new) ≡ next

number_there : (xs : List ℤ) (place : ℕ) (old : ℤ) → slice_get (as_inputs xs) place ≡ Some (Int old) → (place < length xs) × (get_or xs place (pos 0) ≡ old)
number_there [] place old is = absurd cc
number_there (x ∷ xs) zero old is = (omega arith, cc)
number_there (x ∷ xs) (suc place) old is = let later = number_there xs place old is in (omega (arith, later.0), later.1)

as_inputs-set : (xs : List ℤ) (place : ℕ) (new : ℤ) → as_inputs (set xs place new) ≡ set (as_inputs xs) place (Int new)
as_inputs-set [] place new = refl
as_inputs-set (x ∷ xs) zero new = refl
as_inputs-set (x ∷ xs) (suc place) new = ap (λ t. Int x ∷ t) (as_inputs-set xs place new)

no_edit : (xs : List ℤ) (place : ℕ) (added removed : List ℤ) → IsEdit added removed (slice_get (as_inputs xs) place) → ⊥
no_edit [] place added removed is = is
no_edit (x ∷ xs) zero added removed is = is
no_edit (x ∷ xs) (suc place) added removed is = no_edit xs place added removed is

change_here : (xs : List ℤ) (held : List Input) (cs : List Change) (i : ℕ) (c here : Change) → AreChanges held cs → i < length cs → c ≡ get_or cs i c → c ≡ here → as_inputs xs ≡ after_changes held (take i cs)
    → IsChange (as_inputs xs) here × (after_change (as_inputs xs) here ≡ after_changes held (take (i + 1) cs))
change_here xs held cs i c here are lt at is now =
    let this : get_or cs i c ≡ here = sym at ∙ is in (
      subst (λ d. IsChange (as_inputs xs) d) this (subst (λ t. IsChange t (get_or cs i c)) (sym now) (change_now held cs i c are lt)),
      ap (λ d. after_change (as_inputs xs) d) (sym this) ∙ ap (λ t. after_change t (get_or cs i c)) now ∙ sym (change_next held cs i c lt),
    )

pub number_turn : (xs : List ℤ) (held : List Input) (cs : List Change) (i : ℕ) (c : Change) (place : ℕ) (old new : ℤ) → AreChanges held cs → i < length cs → c ≡ get_or cs i c → c ≡ IntChange place old new → as_inputs xs ≡ after_changes held (take i cs)
    → NumberTurn xs place old new (after_changes held (take (i + 1) cs))
number_turn xs held cs i c place old new are lt at is now =
    let turn = change_here xs held cs i c (IntChange place old new) are lt at is now in
    let there = number_there xs place old turn.0 in
    record { within = there.0; there = there.1; after = as_inputs-set xs place new ∙ turn.1 }

pub no_set_turn : (xs : List ℤ) (held : List Input) (cs : List Change) (i : ℕ) (c : Change) (place : ℕ) (added removed : List ℤ) → AreChanges held cs → i < length cs → c ≡ get_or cs i c → c ≡ SetChange place added removed → as_inputs xs ≡ after_changes held (take i cs) → ⊥
no_set_turn xs held cs i c place added removed are lt at is now =
    no_edit xs place added removed (change_here xs held cs i c (SetChange place added removed) are lt at is now).0
