-- What a reader gives that stops at a limit.
use Rattle.std.proofs.Common.{◌≡◌, ◌+◌, ◌-◌, ◌^◌, ◌<◌, ◌≤◌, ◌++◌, ◌∙◌, ℕ, List, [], Option, Some, None, IfSome, length, take, min, refl, sym, ap, arith, inl, inr}
use Rattle.std.specs.Option.{option_map}
use Rattle.std.proofs.Math.Seq.{take-length}
use Rattle.std.proofs.lemmas.Bool.{cases_lt}
use Rattle.std.proofs.lemmas.List.{length-take, take_min}

-- past its length, the front of a list is the list
take_past : (n : ℕ) (left : List ℕ) → length left ≤ n → take n left ≡ left
take_past n left past =
    let whole : min n (length left) ≡ length left = omega arith in
    sym (take_min n left) ∙ rw whole (take-length left)

-- the front of a front of the same length is that front
take_twice : (n : ℕ) (left : List ℕ) → take n (take n left) ≡ take n left
take_twice n left = take_past n (take n left) (omega (arith, length-take n left))

-- what was read up to a limit, in a length that memory can hold, is the front that was asked for
pub front_at_limit : (left read : List ℕ) (limit most : ℕ)
    → limit ≡ min (most + 1) (2 ^ 64 - 1) → length read < 2 ^ 63 → read ≡ take limit left
    → take limit read ≡ take (most + 1) left
front_at_limit left read limit most limit-is small read-is =
    let taken : length read ≡ min limit (length left) = ap length read-is ∙ length-take limit left in
    elim (cases_lt limit (most + 1)) as (λ _. take limit read ≡ take (most + 1) left) [
      | inr above ↦
          let same : limit ≡ most + 1 = omega arith in
          rw (read-is, take_twice, same) refl
      | inl below ↦
          let short : length left ≤ limit = omega arith in
          rw (read-is, take_twice) (take_past limit left short ∙ sym (take_past (most + 1) left (omega arith)))
    ]

-- the same where the reader may not tell what it has left
pub front_at_limit_known : (known : Option (List ℕ)) (start read front : List ℕ) (limit most : ℕ)
    → limit ≡ min (most + 1) (2 ^ 64 - 1) → length read < 2 ^ 63 → start ≡ [] → front ≡ take limit read
    → IfSome (option_map (take limit) known) (λ given. read ≡ start ++ given)
    → IfSome known (λ left. front ≡ take (most + 1) left)
front_at_limit_known None start read front limit most limit-is small empty front-is given = tt
front_at_limit_known (Some left) start read front limit most limit-is small empty front-is given =
    let all : read ≡ take limit left = given ∙ ap (λ s. s ++ take limit left) empty in
    front-is ∙ front_at_limit left read limit most limit-is small all
