-- Numbers by their digits: one that is too great stays so with more digits.
use Rattle.std.proofs.Common.{◌≡◌, ℕ, ◌+◌, ◌-◌, ◌*◌, ◌<◌, Bool, true, false, List, [], ◌∷◌, Some, None, nat_le, refl, arith, if◌then◌else◌}
use Rattle.std.proofs.lemmas.Bool.{lt-leb, leb-false}
use Rattle.comet_meaning.specs.Data.{is_digit, digits_from}
use Rattle.run_state.specs.Numbers.{at_most}

too_great : (most n : ℕ) (cs : List ℕ) → most < n → at_most most (digits_from n cs) ≡ None
too_great most n [] h = rw (lt-leb n most h) refl
too_great most n (c ∷ cs) h =
    elim (is_digit c) as (λ b. at_most most (if b then digits_from (n * 10 + (c - 48)) cs else None) ≡ None)
    [ true ↦ too_great most (n * 10 + (c - 48)) cs (omega arith) | false ↦ refl ]

none_where : (b : Bool) (k : ℕ) → None ≡ (if b then Some k else None) → b ≡ false
none_where true k e = absurd (cc)
none_where false k e = refl

refused_where : (b : Bool) (most k : ℕ) (cs : List ℕ) → None ≡ at_most most (if b then Some k else None) → at_most most (if b then digits_from k cs else None) ≡ None
refused_where true most k cs e = too_great most k cs (leb-false k most (none_where (nat_le k most) k e))
refused_where false most k cs e = refl

-- a digit that is refused, and then all that follow it
pub digit_refused : (most n c : ℕ) (cs : List ℕ) → None ≡ at_most most (digits_from n (c ∷ [])) → at_most most (digits_from n (c ∷ cs)) ≡ None
digit_refused most n c cs e = refused_where (is_digit c) most (n * 10 + (c - 48)) cs e
