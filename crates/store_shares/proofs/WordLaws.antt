-- Sets of numbers as words: which number is the next, and what a word more, or another set, adds.
use Rattle.std.proofs.Common.{◌≡◌, ◌⊎◌, inl, inr, ℕ, zero, suc, ◌+◌, ◌-◌, ◌*◌, ◌/◌, ◌%◌, ◌^◌, ◌<◌, ◌≤◌, max, Bool, true, false, ◌||◌, ◌&&◌, List, [], ◌∷◌, ◌++◌, length, take, refl, sym, ap, ◌∙◌, subst, arith, eqb-true, eq-eqb, true≢false, length-append, w64, bit_or}
use Rattle.std.specs.Prelude.{nat_eq}
use Rattle.std.specs.Int.{bit_at, trailing_zeros}
use Rattle.std.proofs.lemmas.Bool.{cases_lt, cases_eq}
use Rattle.std.proofs.lemmas.List.{take_all}
use Rattle.std.proofs.lemmas.List.Elements.{All-from_get_or}
use Rattle.std.proofs.lemmas.List.Folds.{list_any-append, list_any_none, list_any_at, list_any_more}
use Rattle.std.proofs.lemmas.Nat.{shr-shr, pow_pos}
use Rattle.std.proofs.lemmas.Nat.Bits.{bit_at-zero, bit_at_or, bit_at-lt, bit_at-trailing_zeros, bit_at_above, bit_at-pow_same, bit_at-pow_other}
use Rattle.store_shares.specs.Words.{word_has, has, word_at, IsRising, IsUpTo, IsLowest, HasNone, IsNext, IsNextIn, HasNoneIn, IsJoining}
use Rattle.store_shares.specs.declared.words.Word.{Word}
use Rattle.store_shares.specs.declared.words.Joining.{Joining}

-- ---- bits
rest_bit : (w s i : ℕ) → bit_at (w / 2 ^ s) i ≡ bit_at w (s + i)
rest_bit w s i = ap (λ x. x % 2) (shr-shr w s i)

pub none_left : (w s : ℕ) → w / 2 ^ s ≡ 0 → HasNone w s
none_left w s e b le lt =
    let at : s + (b - s) ≡ b = omega arith in
    ap (bit_at w) (sym at) ∙ sym (rest_bit w s (b - s)) ∙ ap (λ x. bit_at x (b - s)) e ∙ bit_at-zero (b - s)

pub lowest_is : (w s : ℕ) → s < 64 → w < 2 ^ 64 → (w / 2 ^ s ≡ 0 → ⊥) → IsLowest w s (s + trailing_zeros w64 (w / 2 ^ s))
lowest_is w s lt fits some =
    let rest : ℕ = w / 2 ^ s in
    let most : rest ≤ w = omega (arith, pow_pos s) in
    let some' : 0 < rest = positive rest some in
    let h = bit_at-trailing_zeros w64 rest some' (omega (arith, most, fits)) in
    let tz : ℕ = trailing_zeros w64 rest in
    let here : bit_at w (s + tz) ≡ 1 = sym (rest_bit w s tz) ∙ h.1 in
    let low : s + tz < 64 = below w (s + tz) fits here in
    (omega arith, low, here, λ b le less. let at : s + (b - s) ≡ b = omega arith in ap (bit_at w) (sym at) ∙ sym (rest_bit w s (b - s)) ∙ h.2 (b - s) (omega arith))
  where
    positive : (n : ℕ) → (n ≡ 0 → ⊥) → 0 < n
    positive zero ne = absurd (ne refl)
    positive (suc n) ne = omega arith

    below : (n b : ℕ) → n < 2 ^ 64 → bit_at n b ≡ 1 → b < 64
    below n b less is = choose (cases_lt b 64)
      where
        choose : (b < 64) ⊎ (64 ≤ b) → b < 64
        choose (inl l) = l
        choose (inr l) = let none : bit_at n b ≡ 0 = bit_at_above n 64 b less l in absurd (omega (arith, none, is))

-- ---- the numbers of a word
eq_false : (a b : ℕ) → (a ≡ b → ⊥) → nat_eq a b ≡ false
eq_false a b ne = by_test (nat_eq a b) refl
  where
    by_test : (t : Bool) → nat_eq a b ≡ t → nat_eq a b ≡ false
    by_test true e = absurd (ne (eqb-true a b e))
    by_test false e = e

pub word_is : (w : Word) (k : ℕ) → w.index ≡ k / 64 → bit_at w.bits (k % 64) ≡ 1 → word_has w k ≡ true
unfolding word_has
word_is w k at is = ap (λ b. b && nat_eq (bit_at w.bits (k % 64)) 1) (eq-eqb w.index (k / 64) at) ∙ eq-eqb (bit_at w.bits (k % 64)) 1 is

pub word_apart : (w : Word) (k : ℕ) → (w.index ≡ k / 64 → ⊥) → word_has w k ≡ false
unfolding word_has
word_apart w k ne = ap (λ b. b && nat_eq (bit_at w.bits (k % 64)) 1) (eq_false w.index (k / 64) ne)

and_false : (b : Bool) → (b && false) ≡ false
and_false true = refl
and_false false = refl

pub word_unset : (w : Word) (k : ℕ) → bit_at w.bits (k % 64) ≡ 0 → word_has w k ≡ false
unfolding word_has
word_unset w k is = ap (λ b. nat_eq w.index (k / 64) && b) (eq_false (bit_at w.bits (k % 64)) 1 (λ e. absurd (omega (arith, e, is)))) ∙ and_false (nat_eq w.index (k / 64))

word_index : (w : Word) (k : ℕ) → word_has w k ≡ true → w.index ≡ k / 64
word_index w k h = choose (cases_eq w.index (k / 64))
  where
    choose : (w.index ≡ k / 64) ⊎ (w.index ≡ k / 64 → ⊥) → w.index ≡ k / 64
    choose (inl e) = e
    choose (inr ne) = absurd (true≢false (sym h ∙ word_apart w k ne))

-- ---- the next number of a word
pub none_beyond : (w : Word) (from limit : ℕ) → limit / 64 < w.index → HasNoneIn w from limit
none_beyond w from limit lt k le less = word_apart w k (λ e. absurd (omega (arith, e, lt, less)))

module _ (w : Word) (from limit start : ℕ) (behind : from / 64 ≤ w.index) (inside : w.index * 64 < from → start ≡ from % 64) (outside : from ≤ w.index * 64 → start ≡ 0) where
  from_start : (k : ℕ) → from ≤ k → w.index ≡ k / 64 → start ≤ k % 64
  from_start k le at = choose (cases_lt (w.index * 64) from)
    where
      choose : (w.index * 64 < from) ⊎ (from ≤ w.index * 64) → start ≤ k % 64
      choose (inl lt) = omega (arith, inside lt, lt, le, at)
      choose (inr ge) = omega (arith, outside ge)

  pub none_in : HasNone w.bits start → HasNoneIn w from limit
  none_in none k le less = choose (cases_eq w.index (k / 64))
    where
      choose : (w.index ≡ k / 64) ⊎ (w.index ≡ k / 64 → ⊥) → word_has w k ≡ false
      choose (inl e) = word_unset w k (none (k % 64) (from_start k le e) (omega arith))
      choose (inr ne) = word_apart w k ne

  module _ (bit : ℕ) (lowest : IsLowest w.bits start bit) where
    low : bit < 64
    low = lowest.1

    index_of : w.index ≡ (w.index * 64 + bit) / 64
    index_of = omega (arith, low)

    bit_of : bit ≡ (w.index * 64 + bit) % 64
    bit_of = omega (arith, low)

    above : from ≤ w.index * 64 + bit
    above = choose (cases_lt (w.index * 64) from)
      where
        choose : (w.index * 64 < from) ⊎ (from ≤ w.index * 64) → from ≤ w.index * 64 + bit
        choose (inl lt) = omega (arith, inside lt, lt, behind, lowest.0)
        choose (inr ge) = omega (arith, ge)

    none_before : HasNoneIn w from (w.index * 64 + bit)
    none_before k le less = choose (cases_eq w.index (k / 64))
      where
        choose : (w.index ≡ k / 64) ⊎ (w.index ≡ k / 64 → ⊥) → word_has w k ≡ false
        choose (inl e) = word_unset w k (lowest.3 (k % 64) (from_start k le e) (omega (arith, e, less, low)))
        choose (inr ne) = word_apart w k ne

    pub next_is : w.index * 64 + bit < limit → IsNextIn w from limit (w.index * 64 + bit)
    next_is lt = (above, lt, word_is w (w.index * 64 + bit) index_of (ap (bit_at w.bits) (sym bit_of) ∙ lowest.2), none_before)

    pub none_past : limit ≤ w.index * 64 + bit → HasNoneIn w from limit
    none_past ge k le less = none_before k le (omega (arith, ge, less))

-- ---- the next number of a set
nothing : Word
nothing = record { index = 0; bits = 0 }

has_at : (words : List Word) (i k : ℕ) → i < length words → word_has (word_at words i) k ≡ true → has words k ≡ true
has_at words i k lt h = list_any_at (λ w. word_has w k) words i (record { index = 0; bits = 0 }) lt h

has_none : (words : List Word) (k : ℕ) → ((i : ℕ) → i < length words → word_has (word_at words i) k ≡ false) → has words k ≡ false
has_none words k none = list_any_none (λ w. word_has w k) words (All-from_get_or (λ w. word_has w k ≡ false) words (record { index = 0; bits = 0 }) none)

module _ (words : List Word) (rising : IsRising words) (from limit at : ℕ) (up : from ≤ limit) (none : (i k : ℕ) → i < at → from ≤ k → k < limit → word_has (word_at words i) k ≡ false) where
  rises : (i : ℕ) → at ≤ i → i < length words → (word_at words at).index ≤ (word_at words i).index
  rises i le lt = choose (cases_eq at i)
    where
      choose : (at ≡ i) ⊎ (at ≡ i → ⊥) → (word_at words at).index ≤ (word_at words i).index
      choose (inl e) = subst (λ j. (word_at words at).index ≤ (word_at words j).index) e (omega arith)
      choose (inr ne) = let more = rising at i (omega (arith, le, ne)) lt in omega (arith, more)

  -- where a word is later than a number, so are those behind it
  none_later : (k : ℕ) → k / 64 < (word_at words at).index → from ≤ k → k < limit → has words k ≡ false
  none_later k later le less = has_none words k (λ i lt. choose i lt (cases_lt i at))
    where
      choose : (i : ℕ) → i < length words → (i < at) ⊎ (at ≤ i) → word_has (word_at words i) k ≡ false
      choose i lt (inl l) = none i k l le less
      choose i lt (inr l) = let more = rises i l lt in word_apart (word_at words i) k (λ e. absurd (omega (arith, more, later, e)))

  pub next_found : (number : ℕ) → at < length words → IsNextIn (word_at words at) from limit number → IsNext (has words) from limit number
  next_found number lt next = record {
    above = next.0;
    within = let l = next.1 in omega (arith, l);
    none = λ k le less. has_none words k (λ i within. choose k le less i within (cases_lt i at));
    some = λ _. has_at words at number lt next.2;
  }
    where
      index : (word_at words at).index ≡ number / 64
      index = word_index (word_at words at) number next.2

      later : (k : ℕ) → from ≤ k → k < number → (i : ℕ) → i < length words → (at ≡ i) ⊎ (at ≡ i → ⊥) → at ≤ i → word_has (word_at words i) k ≡ false
      later k le less i within (inl e) ge = subst (λ j. word_has (word_at words j) k ≡ false) e (next.3 k le less)
      later k le less i within (inr ne) ge = let more = rising at i (omega (arith, ge, ne)) within in word_apart (word_at words i) k (λ e. absurd (omega (arith, more, index, less, e)))

      choose : (k : ℕ) → from ≤ k → k < number → (i : ℕ) → i < length words → (i < at) ⊎ (at ≤ i) → word_has (word_at words i) k ≡ false
      choose k le less i within (inl l) = let most = next.1 in none i k l le (omega (arith, less, most))
      choose k le less i within (inr l) = later k le less i within (cases_eq at i) l

  pub next_past : limit / 64 < (word_at words at).index → IsNext (has words) from limit limit
  next_past later = record {
    above = up;
    within = omega arith;
    none = λ k le less. none_later k (omega (arith, later, less)) le less;
    some = λ lt. absurd (omega (arith, lt));
  }

  pub next_none : length words ≤ at → IsNext (has words) from limit limit
  next_none ge = record {
    above = up;
    within = omega arith;
    none = λ k le less. has_none words k (λ i lt. none i k (omega (arith, ge, lt)) le less);
    some = λ lt. absurd (omega (arith, lt));
  }

  pub none_more : (none_here : HasNoneIn (word_at words at) from limit) (i k : ℕ) → i < at + 1 → from ≤ k → k < limit → word_has (word_at words i) k ≡ false
  none_more none_here i k lt le less = choose (cases_lt i at)
    where
      choose : (i < at) ⊎ (at ≤ i) → word_has (word_at words i) k ≡ false
      choose (inl l) = none i k l le less
      choose (inr l) = let e : at ≡ i = omega (arith, l, lt) in subst (λ j. word_has (word_at words j) k ≡ false) e (none_here k le less)

-- ---- a word more
at_left : (xs ys : List Word) (i : ℕ) → i < length xs → word_at (xs ++ ys) i ≡ word_at xs i
at_left [] ys i lt = absurd (omega (arith, lt))
at_left (x ∷ xs) ys zero lt = refl
at_left (x ∷ xs) ys (suc i) lt = at_left xs ys i (omega (arith, lt))

at_last : (xs : List Word) (w : Word) → word_at (xs ++ w ∷ []) (length xs) ≡ w
at_last [] w = refl
at_last (x ∷ xs) w = at_last xs w

length_more : (xs : List Word) (w : Word) → length (xs ++ w ∷ []) ≡ length xs + 1
length_more xs w = length-append xs (w ∷ [])

or_false : (b : Bool) → (b || false) ≡ b
or_false true = refl
or_false false = refl

or_assoc : (a b c : Bool) → ((a || b) || c) ≡ (a || (b || c))
or_assoc true b c = refl
or_assoc false b c = refl

pub has_more : (xs : List Word) (w : Word) (k : ℕ) → has (xs ++ w ∷ []) k ≡ (has xs k || word_has w k)
has_more xs w k = list_any-append (λ v. word_has v k) xs (w ∷ []) ∙ ap (λ b. has xs k || b) (or_false (word_has w k))

max_bits : (a b : ℕ) → a < 2 → b < 2 → nat_eq (max a b) 1 ≡ (nat_eq a 1 || nat_eq b 1)
max_bits zero zero la lb = refl
max_bits zero (suc zero) la lb = refl
max_bits zero (suc (suc b)) la lb = absurd (omega (arith, lb))
max_bits (suc zero) zero la lb = refl
max_bits (suc zero) (suc zero) la lb = refl
max_bits (suc zero) (suc (suc b)) la lb = absurd (omega (arith, lb))
max_bits (suc (suc a)) b la lb = absurd (omega (arith, la))

and_or : (t a b : Bool) → (t && (a || b)) ≡ ((t && a) || (t && b))
and_or true a b = refl
and_or false a b = refl

both_words : (last w : Word) (k : ℕ) → last.index ≡ w.index → word_has (record { index = w.index; bits = bit_or last.bits w.bits }) k ≡ (word_has last k || word_has w k)
unfolding word_has
both_words last w k e =
    ap (λ b. nat_eq w.index (k / 64) && b) (ap (λ n. nat_eq n 1) (bit_at_or last.bits w.bits (k % 64)) ∙ max_bits (bit_at last.bits (k % 64)) (bit_at w.bits (k % 64)) (bit_at-lt last.bits (k % 64)) (bit_at-lt w.bits (k % 64)))
    ∙ and_or (nat_eq w.index (k / 64)) (nat_eq (bit_at last.bits (k % 64)) 1) (nat_eq (bit_at w.bits (k % 64)) 1)
    ∙ ap (λ i. (nat_eq i (k / 64) && nat_eq (bit_at last.bits (k % 64)) 1) || (nat_eq w.index (k / 64) && nat_eq (bit_at w.bits (k % 64)) 1)) (sym e)

-- what stands behind rising words is later than each
rising_more : (xs : List Word) (w : Word) → IsRising xs → ((i : ℕ) → i < length xs → (word_at xs i).index < w.index) → IsRising (xs ++ w ∷ [])
rising_more xs w rising below i j lt within = choose (cases_lt j (length xs))
  where
    choose : (j < length xs) ⊎ (length xs ≤ j) → (word_at (xs ++ w ∷ []) i).index < (word_at (xs ++ w ∷ []) j).index
    choose (inl l) =
        let one = at_left xs (w ∷ []) i (omega (arith, lt, l)) in
        let other = at_left xs (w ∷ []) j l in
        rw (one, other) (rising i j lt l)
    choose (inr l) =
        let e : length xs ≡ j = omega (arith, l, within, length_more xs w) in
        let one = at_left xs (w ∷ []) i (omega (arith, lt, e)) in
        let last : word_at (xs ++ w ∷ []) j ≡ w = subst (λ n. word_at (xs ++ w ∷ []) n ≡ w) e (at_last xs w) in
        rw (one, last) (below i (omega (arith, lt, e)))

up_more : (xs : List Word) (w : Word) (n : ℕ) → IsUpTo xs n → w.index ≤ n → IsUpTo (xs ++ w ∷ []) n
up_more xs w n up le i within = choose (cases_lt i (length xs))
  where
    choose : (i < length xs) ⊎ (length xs ≤ i) → (word_at (xs ++ w ∷ []) i).index ≤ n
    choose (inl l) = let one = at_left xs (w ∷ []) i l in rw one (up i l)
    choose (inr l) =
        let e : length xs ≡ i = omega (arith, l, within, length_more xs w) in
        let last : word_at (xs ++ w ∷ []) i ≡ w = subst (λ m. word_at (xs ++ w ∷ []) m ≡ w) e (at_last xs w) in
        rw last le

-- the numbers of a word more
module _ (old xs : List Word) (last : Word) (split : old ≡ xs ++ last ∷ []) (w : Word) where
  -- the last word takes the new one's numbers
  pub same_has : (new : List Word) → last.index ≡ w.index → new ≡ xs ++ record { index = w.index; bits = bit_or last.bits w.bits } ∷ [] → (k : ℕ) → has new k ≡ (has old k || word_has w k)
  same_has new e is k =
      ap (λ ws. has ws k) is ∙ has_more xs (record { index = w.index; bits = bit_or last.bits w.bits }) k ∙ ap (λ b. has xs k || b) (both_words last w k e)
      ∙ sym (or_assoc (has xs k) (word_has last k) (word_has w k)) ∙ ap (λ b. b || word_has w k) (sym (has_more xs last k) ∙ ap (λ ws. has ws k) (sym split))

  -- it stands behind the last word
  pub behind_has : (new : List Word) → new ≡ (xs ++ last ∷ []) ++ w ∷ [] → (k : ℕ) → has new k ≡ (has old k || word_has w k)
  behind_has new is k = ap (λ ws. has ws k) (is ∙ ap (λ ws. ws ++ w ∷ []) (sym split)) ∙ has_more old w k

-- all before the last of rising words are earlier
module _ (old xs : List Word) (last : Word) (split : old ≡ xs ++ last ∷ []) (rising : IsRising old) where
  rising' : IsRising (xs ++ last ∷ [])
  rising' = subst IsRising split rising

  front_rising : IsRising xs
  front_rising i j lt within =
      let more = length_more xs last in
      let r = rising' i j lt (omega (arith, within, more)) in
      let one = at_left xs (last ∷ []) i (omega (arith, lt, within)) in
      let other = at_left xs (last ∷ []) j within in
      subst (λ v. v.index < (word_at xs j).index) one (subst (λ v. (word_at (xs ++ last ∷ []) i).index < v.index) other r)

  front_below : (i : ℕ) → i < length xs → (word_at xs i).index < last.index
  front_below i within =
      let more = length_more xs last in
      let r = rising' i (length xs) within (omega (arith, more)) in
      let one = at_left xs (last ∷ []) i within in
      let other = at_last xs last in
      subst (λ v. v.index < last.index) one (subst (λ v. (word_at (xs ++ last ∷ []) i).index < v.index) other r)

  module _ (w : Word) (up : IsUpTo old w.index) where
    last_up : last.index ≤ w.index
    last_up =
        let more = length_more xs last in
        let at : word_at old (length xs) ≡ last = ap (λ ws. word_at ws (length xs)) split ∙ at_last xs last in
        let u = up (length xs) (subst (λ ws. length xs < length ws) (sym split) (omega (arith, more))) in
        subst (λ v. v.index ≤ w.index) at u

    pub same_rising : (new : List Word) → last.index ≡ w.index → new ≡ xs ++ record { index = w.index; bits = bit_or last.bits w.bits } ∷ [] → IsRising new
    same_rising new e is = subst IsRising (sym is) (rising_more xs (record { index = w.index; bits = bit_or last.bits w.bits }) front_rising (λ i within. let b = front_below i within in omega (arith, b, e)))

    pub same_up : (new : List Word) → last.index ≡ w.index → new ≡ xs ++ record { index = w.index; bits = bit_or last.bits w.bits } ∷ [] → IsUpTo new w.index
    same_up new e is = subst (λ ws. IsUpTo ws w.index) (sym is) (up_more xs (record { index = w.index; bits = bit_or last.bits w.bits }) w.index (λ i within. let b = front_below i within in omega (arith, b, e)) (omega arith))

    pub behind_rising : (new : List Word) → (last.index ≡ w.index → ⊥) → new ≡ (xs ++ last ∷ []) ++ w ∷ [] → IsRising new
    behind_rising new ne is =
        let lower : last.index < w.index = let u = last_up in omega (arith, u, ne) in
        subst IsRising (sym is) (rising_more (xs ++ last ∷ []) w rising' (λ i within. choose lower i within (cases_lt i (length xs))))
      where
        choose : last.index < w.index → (i : ℕ) → i < length (xs ++ last ∷ []) → (i < length xs) ⊎ (length xs ≤ i) → (word_at (xs ++ last ∷ []) i).index < w.index
        choose lower i within (inl l) =
            let b = front_below i l in
            let one = at_left xs (last ∷ []) i l in
            rw one (let less : (word_at xs i).index < w.index = omega (arith, b, lower) in less)
        choose lower i within (inr l) =
            let e : length xs ≡ i = omega (arith, l, within, length_more xs last) in
            let at : word_at (xs ++ last ∷ []) i ≡ last = subst (λ m. word_at (xs ++ last ∷ []) m ≡ last) e (at_last xs last) in
            rw at lower

    pub behind_up : (new : List Word) → new ≡ (xs ++ last ∷ []) ++ w ∷ [] → IsUpTo new w.index
    behind_up new is = subst (λ ws. IsUpTo ws w.index) (sym (is ∙ ap (λ ws. ws ++ w ∷ []) (sym split))) (up_more old w w.index up (omega arith))

-- ---- one number
pub one_number : (number k : ℕ) (bits : ℕ) → bits ≡ 2 ^ (number % 64) → word_has (record { index = number / 64; bits = bits }) k ≡ nat_eq k number
one_number number k bits e = choose (cases_eq k number)
  where
    w : Word
    w = record { index = number / 64; bits = bits }

    unset : (number / 64 ≡ k / 64) ⊎ (number / 64 ≡ k / 64 → ⊥) → (k ≡ number → ⊥) → word_has (record { index = number / 64; bits = bits }) k ≡ false
    unset (inl same) ne = word_unset (record { index = number / 64; bits = bits }) k (ap (λ b. bit_at b (k % 64)) e ∙ bit_at-pow_other (number % 64) (k % 64) (λ at. ne (omega (arith, same, at))))
    unset (inr other) ne = word_apart (record { index = number / 64; bits = bits }) k other

    choose : (k ≡ number) ⊎ (k ≡ number → ⊥) → word_has (record { index = number / 64; bits = bits }) k ≡ nat_eq k number
    choose (inl same) =
        word_is (record { index = number / 64; bits = bits }) k (ap (λ n. n / 64) (sym same)) (ap (λ b. bit_at b (k % 64)) e ∙ ap (λ n. bit_at (2 ^ (number % 64)) (n % 64)) same ∙ bit_at-pow_same (number % 64)) ∙ sym (eq-eqb k number same)
    choose (inr ne) = unset (cases_eq (number / 64) (k / 64)) ne ∙ sym (eq_false k number ne)

-- ---- two sets are joined
pub right_there : (left right n m turn : ℕ) → (left < n → right < m) → left + right ≡ turn → left ≤ n → turn < n + m → right < m
right_there left right n m turn behind count within lt = choose (cases_lt left n)
  where
    choose : (left < n) ⊎ (n ≤ left) → right < m
    choose (inl l) = behind l
    choose (inr ge) = omega (arith, ge, count, within, lt)

or_mid : (a b c : Bool) → ((a || b) || c) ≡ ((a || c) || b)
or_mid true b c = refl
or_mid false true true = refl
or_mid false true false = refl
or_mid false false true = refl
or_mid false false false = refl

module _ (first second : List Word) (one : IsRising first) (other : IsRising second) (turn : ℕ) (state : Joining) (joining : IsJoining first second turn state) where
  later_up : (ws words : List Word) (at : ℕ) → IsRising ws → IsUpTo words (word_at ws at).index → (i : ℕ) → at + 1 ≤ i → i < length ws → IsUpTo words (word_at ws i).index
  later_up ws words at rising up i le lt j within =
      let u = up j within in
      let r = rising at i (omega (arith, le)) lt in
      omega (arith, u, r)

  pub left_joined : (new : Joining) → state.left < length first → (state.right < length second → (word_at first state.left).index ≤ (word_at second state.right).index) →
      ((k : ℕ) → has new.words.items k ≡ (has state.words.items k || word_has (word_at first state.left) k)) → IsRising new.words.items → IsUpTo new.words.items (word_at first state.left).index →
      new.left ≡ state.left + 1 → new.right ≡ state.right → IsJoining first second (turn + 1) new
  left_joined new lt before both rising up left right = record {
    rising = rising;
    has_both = λ k. both k ∙ ap (λ b. b || word_has (word_at first state.left) k) (joining.has_both k)
        ∙ or_mid (has (take state.left first) k) (has (take state.right second) k) (word_has (word_at first state.left) k)
        ∙ ap (λ b. b || has (take state.right second) k) (sym (list_any_more (λ w. word_has w k) first state.left (record { index = 0; bits = 0 }) lt))
        ∙ ap (λ n. has (take n first) k || has (take state.right second) k) (sym left) ∙ ap (λ n. has (take new.left first) k || has (take n second) k) (sym right);
    up_left = λ i le less. later_up first new.words.items state.left one up i (omega (arith, le, left)) less;
    up_right = λ i le less j within. up_other i (omega (arith, le, right)) less j within (cases_eq state.right i);
    within_left = omega (arith, left, lt);
    within_right = let w = joining.within_right in omega (arith, right, w);
    count = let c = joining.count in omega (arith, left, right, c);
  }
    where
      up_other : (i : ℕ) → state.right ≤ i → i < length second → (j : ℕ) → j < length new.words.items → (state.right ≡ i) ⊎ (state.right ≡ i → ⊥) → (word_at new.words.items j).index ≤ (word_at second i).index
      up_other i le less j within (inl e) =
          let u = up j within in
          let b = before (omega (arith, e, less)) in
          subst (λ n. (word_at new.words.items j).index ≤ (word_at second n).index) e (omega (arith, u, b))
      up_other i le less j within (inr ne) =
          let u = up j within in
          let b = before (omega (arith, le, less)) in
          let r = other state.right i (omega (arith, le, ne)) less in
          omega (arith, u, b, r)

  pub right_joined : (new : Joining) → state.right < length second → (state.left < length first → (word_at second state.right).index ≤ (word_at first state.left).index) →
      ((k : ℕ) → has new.words.items k ≡ (has state.words.items k || word_has (word_at second state.right) k)) → IsRising new.words.items → IsUpTo new.words.items (word_at second state.right).index →
      new.left ≡ state.left → new.right ≡ state.right + 1 → IsJoining first second (turn + 1) new
  right_joined new lt before both rising up left right = record {
    rising = rising;
    has_both = λ k. both k ∙ ap (λ b. b || word_has (word_at second state.right) k) (joining.has_both k)
        ∙ or_assoc (has (take state.left first) k) (has (take state.right second) k) (word_has (word_at second state.right) k)
        ∙ ap (λ b. has (take state.left first) k || b) (sym (list_any_more (λ w. word_has w k) second state.right (record { index = 0; bits = 0 }) lt))
        ∙ ap (λ n. has (take n first) k || has (take (state.right + 1) second) k) (sym left) ∙ ap (λ n. has (take new.left first) k || has (take n second) k) (sym right);
    up_right = λ i le less. later_up second new.words.items state.right other up i (omega (arith, le, right)) less;
    up_left = λ i le less j within. up_other i (omega (arith, le, left)) less j within (cases_eq state.left i);
    within_right = omega (arith, right, lt);
    within_left = let w = joining.within_left in omega (arith, left, w);
    count = let c = joining.count in omega (arith, left, right, c);
  }
    where
      up_other : (i : ℕ) → state.left ≤ i → i < length first → (j : ℕ) → j < length new.words.items → (state.left ≡ i) ⊎ (state.left ≡ i → ⊥) → (word_at new.words.items j).index ≤ (word_at first i).index
      up_other i le less j within (inl e) =
          let u = up j within in
          let b = before (omega (arith, e, less)) in
          subst (λ n. (word_at new.words.items j).index ≤ (word_at first n).index) e (omega (arith, u, b))
      up_other i le less j within (inr ne) =
          let u = up j within in
          let b = before (omega (arith, le, less)) in
          let r = one state.left i (omega (arith, le, ne)) less in
          omega (arith, u, b, r)

  pub all_joined : length first + length second ≤ turn → (k : ℕ) → has state.words.items k ≡ (has first k || has second k)
  all_joined ge k =
      let l = joining.within_left in
      let r = joining.within_right in
      let c = joining.count in
      joining.has_both k ∙ ap (λ ws. has ws k || has (take state.right second) k) (take_all state.left first (omega (arith, l, r, c, ge)))
      ∙ ap (λ ws. has first k || has ws k) (take_all state.right second (omega (arith, l, r, c, ge)))
