-- The short rests of a list as it grows, and those of a day.
use Rattle.std.proofs.Common.{◌≡◌, ℕ, zero, suc, ◌+◌, ◌-◌, ◌<◌, ◌≤◌, ℤ, List, [], ◌∷◌, length, take, refl, ap, ◌∙◌, arith, add-one, sub-one}
use Rattle.own_constraint.specs.Rest.{capped, shift, short_rest, short_rests, short_rests_at}

more : (xs : List ℤ) (day : ℕ) → suc day < length xs
    → short_rests (take (suc (suc day)) xs) ≡ short_rests (take (suc day) xs) + short_rest (shift xs day) (shift xs (suc day))
more [] day lt = absurd (omega (arith, lt))
more (x ∷ []) day lt = absurd (omega (arith, lt))
more (x ∷ y ∷ xs) zero lt = omega arith
more (x ∷ y ∷ xs) (suc day) lt = omega (arith, more (y ∷ xs) day (omega (arith, lt)))

-- a loop's step
pub one_more : (xs : List ℤ) (day : ℕ) → 1 ≤ day → day < length xs
    → short_rests (take (day + 1) xs) ≡ short_rests (take day xs) + short_rest (shift xs (day - 1)) (shift xs day)
one_more xs zero low lt = absurd (omega (arith, low))
one_more xs (suc day) low lt = rw (add-one, sub-one) (more xs day lt)

-- of any day but the first
pub at_later : (xs : List ℤ) (day : ℕ) → 1 ≤ day
    → short_rests_at xs day ≡ short_rest (shift xs (day - 1)) (shift xs day) + short_rest (shift xs day) (shift xs (day + 1))
at_later xs zero low = absurd (omega (arith, low))
at_later xs (suc day) low = rw (add-one, sub-one) refl

-- a count and its bound after a step
pub record IsCount (xs : List ℤ) (day count : ℕ) : Type 0 where
  pub is : count ≡ short_rests (take day xs)
  pub small : count ≤ day

pub next : (xs : List ℤ) (day count part : ℕ) (x y : ℤ) → 1 ≤ day → day < length xs
    → x ≡ shift xs (day - 1) → y ≡ shift xs day
    → count ≡ short_rests (take day xs) → count ≤ day → part ≡ short_rest x y → part ≤ 1
    → IsCount xs (day + 1) (count + part)
next xs day count part x y low lt before at is small part_is one =
    let there : part ≡ short_rest (shift xs (day - 1)) (shift xs day) = part_is ∙ ap (λ z. short_rest z y) before ∙ ap (short_rest (shift xs (day - 1))) at in
    let step = one_more xs day low lt in
    record { is = rw (step, is, there) refl; small = omega (arith, small, one) }

-- the short rests with the day before and with the next are those of the day
pub both : (xs : List ℤ) (day before behind : ℕ) (x y z w : ℤ) → 1 ≤ day
    → x ≡ shift xs (day - 1) → y ≡ shift xs day → z ≡ shift xs day → w ≡ shift xs (day + 1)
    → before ≡ short_rest x y → behind ≡ short_rest z w → before ≤ 1 → behind ≤ 1
    → before + behind ≡ capped (short_rests_at xs day)
both xs day before behind x y z w low xi yi zi wi before_is behind_is one two =
    let first : before ≡ short_rest (shift xs (day - 1)) (shift xs day) = before_is ∙ ap (λ t. short_rest t y) xi ∙ ap (short_rest (shift xs (day - 1))) yi in
    let second : behind ≡ short_rest (shift xs day) (shift xs (day + 1)) = behind_is ∙ ap (λ t. short_rest t w) zi ∙ ap (short_rest (shift xs day)) wi in
    let all = at_later xs day low in
    omega (arith, first, second, all, one, two)
