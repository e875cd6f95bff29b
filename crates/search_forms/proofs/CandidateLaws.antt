-- A table of candidates, row by row.
use Rattle.std.proofs.Common.{◌≡◌, refl, ap, ◌∙◌, ℕ, zero, suc, ◌+◌, ◌*◌, ◌<◌, ◌≤◌, ℤ, List, [], ◌∷◌, ◌++◌, Some, None, Bool, length, take, drop, get_or, slice_get, arith}
use Rattle.std.proofs.lemmas.List.{length-drop, take_all, take-append-le, drop-append-le, drop-drop, get_or_past}
use Rattle.std.proofs.lemmas.Option.{slice_get-get_or, slice_get_past}
use Rattle.std.proofs.lemmas.Bool.{lt-ltb, le-ltb}
use Rattle.cbl_base.specs.declared.place.Place.{Place}
use Rattle.cbl_base.specs.declared.faults.Limit.TheVariants.{Candidates}
use Rattle.cbl_base.specs.declared.faults.RunFault.TheVariants.{TooMany}
use Rattle.comet_meaning.specs.Candidates.{Candidate, with_candidate}
use Rattle.comet_meaning.specs.Limits.{most_candidates}
use Rattle.comet_meaning.specs.Outcome.{Outcome, Went, Halted, Faulted, then_do, give, unless}
use Rattle.comet_meaning.specs.State.{State, left}
use Rattle.search_forms.specs.Tables.{rows_of}

pub rows_length : (w n : ℕ) (xs : List ℤ) → length (rows_of w n xs) ≡ n
rows_length w zero xs = refl
rows_length w (suc n) xs = ap suc (rows_length w n (drop w xs))

-- one row more
pub rows_more : (w n : ℕ) (xs row : List ℤ) → length xs ≡ n * w → length row ≡ w → rows_of w (n + 1) (xs ++ row) ≡ rows_of w n xs ++ row ∷ []
rows_more w zero [] row h k = ap (λ r. r ∷ []) (take_all w row (omega (arith, k)))
rows_more w zero (x ∷ xs) row h k = absurd (omega (arith, h))
rows_more w (suc n) xs row h k =
    let whole : length xs ≡ n * w + w = omega (arith, h) in
    let le : w ≤ length xs = omega (arith, whole) in
    let next : suc n + 1 ≡ suc (n + 1) = omega arith in
    ap (λ m. rows_of w m (xs ++ row)) next
    ∙ ap (λ r. r ∷ rows_of w (n + 1) (drop w (xs ++ row))) (take-append-le w xs row le)
    ∙ ap (λ zs. take w xs ∷ rows_of w (n + 1) zs) (drop-append-le w xs row le)
    ∙ ap (λ rs. take w xs ∷ rs) (rows_more w n (drop w xs) row (omega (arith, length-drop w xs, whole)) k)

-- the row with a number
pub row_of_number : (w n i : ℕ) (xs : List ℤ) → i < n → get_or (rows_of w n xs) i [] ≡ take w (drop (i * w) xs)
row_of_number w zero i xs h = absurd (omega (arith, h))
row_of_number w (suc n) zero xs h = let none : 0 ≡ 0 * w = omega arith in ap (λ k. take w (drop k xs)) none
row_of_number w (suc n) (suc i) xs h =
    let e : w + i * w ≡ suc i * w = omega arith in
    row_of_number w n i (drop w xs) (omega (arith, h))
    ∙ ap (take w) (drop-drop (i * w) w xs ∙ ap (λ k. drop k xs) e)

pub row_there : (w n i : ℕ) (xs : List ℤ) → i < n → slice_get (rows_of w n xs) i ≡ Some (get_or (rows_of w n xs) i [])
row_there w n i xs h = slice_get-get_or (rows_of w n xs) i [] (omega (arith, h, rows_length w n xs))

pub no_row : (w n i : ℕ) (xs : List ℤ) → n ≤ i → slice_get (rows_of w n xs) i ≡ None
no_row w n i xs h = slice_get_past (rows_of w n xs) i (omega (arith, h, rows_length w n xs))

pub no_row_or : (w n i : ℕ) (xs : List ℤ) → n ≤ i → get_or (rows_of w n xs) i [] ≡ []
no_row_or w n i xs h = get_or_past (rows_of w n xs) i [] (omega (arith, h, rows_length w n xs))

-- one more candidate, where there may be one more, and where there may not
abbrev adding : Place → Candidate → List Candidate → State → Bool → Outcome (List Candidate)
adding at c cs s room = then_do (unless room at (TooMany Candidates) s) (λ _. give (cs ++ c ∷ []))

pub candidate_fits : (at : Place) (c : Candidate) (cs : List Candidate) (s : State) → length cs < most_candidates → with_candidate at c cs s ≡ Went (cs ++ c ∷ []) s
candidate_fits at c cs s h = ap (adding at c cs s) (lt-ltb (length cs) most_candidates h)

pub too_many : (at : Place) (c : Candidate) (cs : List Candidate) (s : State) → most_candidates ≤ length cs → with_candidate at c cs s ≡ Halted (Faulted at (TooMany Candidates)) (left s)
too_many at c cs s h = ap (adding at c cs s) (le-ltb (length cs) most_candidates h)
