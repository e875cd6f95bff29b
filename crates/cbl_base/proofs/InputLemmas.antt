-- Lists of inputs that are all numbers, and how changes of what is held leave a list.
use Rattle.std.proofs.Common.{◌≡◌, ◌≢◌, ℕ, zero, suc, ℤ, ◌<◌, true, false, List, [], ◌∷◌, ◌+◌, length, get_or, set, take, refl, ap, sym, ◌∙◌, subst, arith}
use Rattle.std.specs.Prelude.{Option, Some, None, slice_get}
use Rattle.std.proofs.lemmas.Bool.{both_ways}
use Rattle.cbl_base.specs.declared.input.Input.{Input}
use Rattle.cbl_base.specs.declared.input.Input.TheVariants.{Int, Set}
use Rattle.cbl_base.specs.declared.input.Change.{Change}
use Rattle.cbl_base.specs.declared.input.Change.TheVariants.{Int as IntChange, Set as SetChange}
use Rattle.std.proofs.lemmas.List.Sums.{fold_more}
use Rattle.cbl_base.specs.Inputs.{InputKind, number_kind, kind_of, kinds_of, all_numbers, numbers_of, as_inputs}
use Rattle.cbl_base.proofs.PlaceLemmas.{others_stay}
use Rattle.cbl_base.specs.Changes.{place_of, edited, after_change, after_changes, IsEdit, IsChange, NoneAt, AreChanges}

-- ---- numbers as inputs
pub numbers_of-as_inputs : (xs : List ℤ) → numbers_of (as_inputs xs) ≡ xs
numbers_of-as_inputs [] = refl
numbers_of-as_inputs (x ∷ xs) = ap (λ t. x ∷ t) (numbers_of-as_inputs xs)

pub as_inputs-numbers_of : (inputs : List Input) → all_numbers (kinds_of inputs) ≡ true → as_inputs (numbers_of inputs) ≡ inputs
as_inputs-numbers_of [] e = refl
as_inputs-numbers_of (Int x ∷ inputs) e = ap (λ t. Int x ∷ t) (as_inputs-numbers_of inputs e)
as_inputs-numbers_of (Set s ∷ inputs) e = absurd (both_ways false refl e)

-- another place stays as it was
pub get-after_change_other : (inputs : List Input) (c : Change) (k : ℕ) → k ≢ place_of c → slice_get (after_change inputs c) k ≡ slice_get inputs k
get-after_change_other inputs (IntChange place old new) k ne = others_stay inputs place k (Int new) ne
get-after_change_other inputs (SetChange place added removed) k ne = others_stay inputs place k _ ne

pub get-after_changes_other : (inputs : List Input) (cs : List Change) (k : ℕ) → NoneAt k cs → slice_get (after_changes inputs cs) k ≡ slice_get inputs k
get-after_changes_other inputs [] k far = refl
get-after_changes_other inputs (c ∷ cs) k far =
    get-after_changes_other (after_change inputs c) cs k far.1 ∙ get-after_change_other inputs c k (λ e. far.0 (sym e))

-- ---- the kinds stay
kind_at : Option Input → InputKind
kind_at (Some x) = kind_of x
kind_at None = number_kind

-- only a set is edited
edited_is_set : (added removed : List ℤ) (o : Option Input) → IsEdit added removed o → (s : List ℤ) × (o ≡ Some (Set s))
edited_is_set added removed (Some (Set s)) h = (s, refl)
edited_is_set added removed (Some (Int x)) h = absurd h
edited_is_set added removed None h = absurd h

-- what stands at the place of a change of a set is a set
pub set_there : (inputs : List Input) (place : ℕ) (added removed : List ℤ) → IsEdit added removed (slice_get inputs place) → (s : List ℤ) × (slice_get inputs place ≡ Some (Set s))
set_there inputs place added removed h = edited_is_set added removed (slice_get inputs place) h

-- ---- several changes: each is a change of what stands there at its turn
same_change : (xs ys : List Input) (c : Change) → slice_get ys (place_of c) ≡ slice_get xs (place_of c) → IsChange xs c → IsChange ys c
same_change xs ys (IntChange place old new) e h = e ∙ h
same_change xs ys (SetChange place added removed) e h = subst (λ o. IsEdit added removed o) (sym e) h

pub changes-after_change : (inputs : List Input) (c : Change) (cs : List Change) → NoneAt (place_of c) cs → AreChanges inputs cs → AreChanges (after_change inputs c) cs
changes-after_change inputs c [] far h = tt
changes-after_change inputs c (e ∷ cs) far h =
    (same_change inputs (after_change inputs c) e (get-after_change_other inputs c (place_of e) far.0) h.0, h.1, changes-after_change inputs c cs far.1 h.2)

-- in a loop over the changes, at the change i
pub change_now : (inputs : List Input) (cs : List Change) (i : ℕ) (d : Change) → AreChanges inputs cs → i < length cs → IsChange (after_changes inputs (take i cs)) (get_or cs i d)
change_now inputs [] i d h lt = absurd (omega arith)
change_now inputs (c ∷ cs) zero d h lt = h.0
change_now inputs (c ∷ cs) (suc i) d h lt =
    change_now (after_change inputs c) cs i d (changes-after_change inputs c cs h.1 h.2) (omega arith)

pub change_next : (inputs : List Input) (cs : List Change) (i : ℕ) (d : Change) → i < length cs → after_changes inputs (take (i + 1) cs) ≡ after_change (after_changes inputs (take i cs)) (get_or cs i d)
change_next inputs cs i d lt = fold_more after_change inputs cs i d lt
