-- Digits, one after another.
use Rattle.std.specs.Prelude.{◌≡◌, ◌<◌, ◌≤◌, ◌+◌, ◌*◌, ◌-◌, ◌&&◌, ℕ, true, List, [], ◌∷◌, length, drop, slice_index, refl}
use Rattle.std.specs.List.{list_all}
use Rattle.std.proofs.Common.{arith, ap, sym, ◌∙◌, subst, add-one}
use Rattle.std.proofs.Math.ListN.{drop_of_length-le}
use Rattle.std.proofs.Math.Seq.{drop-cons}
use Rattle.comet_syntax.specs.Lexeme.{is_digit}
use Rattle.comet_syntax.specs.Number.{digits_behind, number_of_digits}
use Rattle.comet_syntax.proofs.Lexing.{and_left, and_right}

-- more digits spell no less
pub digits_grow : (before : ℕ) (cs : List ℕ) → before ≤ digits_behind before cs
digits_grow before [] = omega arith
digits_grow before (c ∷ cs) = omega (arith, digits_grow (before * 10 + (c - 48)) cs)

digits_drop : (digits : List ℕ) (i : ℕ) → i < length digits → drop i digits ≡ slice_index digits i ∷ drop (i + 1) digits
digits_drop digits i low = rw (add-one, drop-cons digits i 0) refl

pub digits_step : (digits : List ℕ) (i before : ℕ) → i < length digits
    → digits_behind before (drop i digits) ≡ digits_behind (before * 10 + (slice_index digits i - 48)) (drop (i + 1) digits)
digits_step digits i before low = ap (digits_behind before) (digits_drop digits i low)

pub digit_here : (digits : List ℕ) (i : ℕ) → i < length digits → list_all is_digit (drop i digits) ≡ true
    → (is_digit (slice_index digits i) ≡ true) × (list_all is_digit (drop (i + 1) digits) ≡ true)
digit_here digits i low h =
    let g : (is_digit (slice_index digits i) && list_all is_digit (drop (i + 1) digits)) ≡ true = sym (ap (list_all is_digit) (digits_drop digits i low)) ∙ h in
    (and_left _ _ g, and_right (is_digit (slice_index digits i)) _ g)

pub at_least : (digits : List ℕ) (i before : ℕ) → i < length digits → digits_behind before (drop i digits) ≡ number_of_digits digits
    → before * 10 + (slice_index digits i - 48) ≤ number_of_digits digits
at_least digits i before low e =
    let step = digits_step digits i before low in
    let grow : before * 10 + (slice_index digits i - 48) ≤ digits_behind (before * 10 + (slice_index digits i - 48)) (drop (i + 1) digits) = digits_grow (before * 10 + (slice_index digits i - 48)) (drop (i + 1) digits) in
    let same : digits_behind (before * 10 + (slice_index digits i - 48)) (drop (i + 1) digits) ≡ number_of_digits digits = sym step ∙ e in
    subst (λ n. before * 10 + (slice_index digits i - 48) ≤ n) same grow

pub no_more_digits : (digits : List ℕ) (i before : ℕ) → length digits ≤ i → digits_behind before (drop i digits) ≡ number_of_digits digits → before ≡ number_of_digits digits
no_more_digits digits i before end e = sym (ap (digits_behind before) (drop_of_length-le digits end)) ∙ e
