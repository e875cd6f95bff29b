-- How often a name stands in a list that grew by one name.
use Rattle.std.proofs.Common.{◌≡◌, ◌≢◌, ◌+◌, ◌++◌, ◌∙◌, ℕ, List, [], ◌∷◌, true, false, refl, cond, bytes_eq, add-zero}
use Rattle.std.proofs.lemmas.Bool.{false_from_ne_true}
use Rattle.std.proofs.lemmas.List.Sums.{sum_by_push}
use Rattle.std.proofs.lemmas.Slice.Eq.{bytes_eq-Decides}
use Rattle.cbl_io.specs.Faults.{times_of}

pub times_of-push_same : (name : List ℕ) (failed : List (List ℕ))
    → times_of name (failed ++ name ∷ []) ≡ times_of name failed + 1
times_of-push_same name failed =
    let same : bytes_eq name name ≡ true = (bytes_eq-Decides name name).1 refl in
    sum_by_push (λ other. cond (bytes_eq name other) 1 0) failed name ∙ rw same refl

pub times_of-push_other : (other name : List ℕ) (failed : List (List ℕ))
    → other ≢ name → times_of other (failed ++ name ∷ []) ≡ times_of other failed
times_of-push_other other name failed differ =
    let apart : bytes_eq other name ≡ false = false_from_ne_true (bytes_eq other name) (λ same. differ ((bytes_eq-Decides other name).0 same)) in
    sum_by_push (λ x. cond (bytes_eq other x) 1 0) failed name ∙ rw apart (add-zero (times_of other failed))
