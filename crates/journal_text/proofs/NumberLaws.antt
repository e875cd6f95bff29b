-- The numbers and lists that are read are those that are spelled.
use Rattle.std.proofs.Common.{◌≡◌, ◌≢◌, ◌⊎◌, inl, inr, ⊎_elim, ℕ, zero, suc, ◌+◌, ◌-◌, ◌*◌, ◌<◌, ◌≤◌, Bool, true, false, ◌&&◌, true≢false, cond, eqb, leb, eq-eqb, ne_eqb, List, [], ◌∷◌, ◌++◌, length, map, get_or, drop, Option, Some, None, Err, refl, ap, sym, subst, ◌∙◌, arith, append_assoc}
use Rattle.std.specs.Prelude.{ℤ, pos, negsuc, nat_lt, nat_le, codes}
use Rattle.std.specs.List.{AllByRecursion}
use Rattle.std.specs.Int.{w64}
use Rattle.std.specs.Int.RustNames.{FitsSigned}
use Rattle.std.specs.Char.{is_ascii_digit}
use Rattle.std.specs.Str.{all_ascii_digits}
use Rattle.std.specs.Fmt.{decimal, signed_decimal}
use Rattle.std.proofs.lemmas.Bool.{eqb-true, leb-true, ltb-true, lt-ltb, le-leb}
use Rattle.std.proofs.lemmas.Option.{cond_some}
use Rattle.std.proofs.lemmas.Fmt.{digits_decimal, digits_value-decimal, decimal-digits_value, decimal_digit, decimal_nonempty, first_decimal}
use Rattle.std.proofs.lemmas.Str.Parse.{IsNumeralModel, FoldsDigits, numerals_by_fold, tells_all_ascii_digits}
use Rattle.std.proofs.lemmas.List.{at_drop_more}
use Rattle.journal_text.specs.declared.stop.Stop as stop
use Rattle.journal_text.specs.declared.stop.Stop.TheVariants as stops
use Rattle.journal_text.specs.Texts.{joined, list_text}
use Rattle.journal_text.specs.Grammar.{most_numbers, FitsList}
use Rattle.journal_text.specs.Refusal.{split}
use Rattle.journal_text.specs.Reading.{◌>>=◌, Gives, next, more_digit, digits_from, is_plain, number_of, number_up_to, negative_of, positive_of, signed_of, numbers_of, closed, inside_of, listed_of, list_of}
use Rattle.journal_text.proofs.Choices.{some_is, bind_some}
use Rattle.journal_text.proofs.Cuts.{is_free, AllFree, both, and_true, free_append, free_byte, free_joined, split_joined, text_of_parts, next_is, one_word}

abbrev value_from : ℕ → List ℕ → ℕ
value_from n [] = n
value_from n (c ∷ cs) = value_from (n * 10 + (c - 48)) cs

folds : FoldsDigits value_from
folds = record { empty = λ n. refl; more = λ n c cs h. refl }

own : IsNumeralModel (λ ds. all_ascii_digits ds ≡ true) (value_from 0)
own = numerals_by_fold (λ ds. all_ascii_digits ds ≡ true) tells_all_ascii_digits value_from folds

grows : (n : ℕ) (ds : List ℕ) → n ≤ value_from n ds
grows n [] = omega arith
grows n (c ∷ cs) = let h = grows (n * 10 + (c - 48)) cs in omega arith

digits_take : (n : ℕ) (ds : List ℕ) (m : ℕ) → n < 18446744073709551616 → digits_from n ds ≡ Some m → (all_ascii_digits ds ≡ true) × (m ≡ value_from n ds) × (m < 18446744073709551616)
digits_take n [] m small e = let h : n ≡ m = some_is n m e in (refl, sym h, subst (λ k. k < 18446744073709551616) h small)
digits_take n (c ∷ cs) m small e =
    let next : ℕ = n * 10 + (c - 48) in
    let a = bind_some (more_digit n c) (λ k. digits_from k cs) m e in
    let b = cond_some (is_ascii_digit c && nat_lt next 18446744073709551616) next a.0 a.1 in
    let t = both (is_ascii_digit c) (nat_lt next 18446744073709551616) b.0 in
    let rest = digits_take next cs m (ltb-true next 18446744073709551616 t.1) (subst (λ k. digits_from k cs ≡ Some m) (sym b.1) a.2) in
    (and_true (is_ascii_digit c) (all_ascii_digits cs) t.0 rest.0, rest.1, rest.2)

digits_again : (n : ℕ) (ds : List ℕ) → all_ascii_digits ds ≡ true → value_from n ds < 18446744073709551616 → digits_from n ds ≡ Some (value_from n ds)
digits_again n [] all small = refl
digits_again n (c ∷ cs) all small =
    let next : ℕ = n * 10 + (c - 48) in
    let t = both (is_ascii_digit c) (all_ascii_digits cs) all in
    let g = grows next cs in
    let room : nat_lt next 18446744073709551616 ≡ true = lt-ltb next 18446744073709551616 (omega arith) in
    ap (λ b. cond b (Some next) None >>= λ k. digits_from k cs) (and_true (is_ascii_digit c) (nat_lt next 18446744073709551616) t.0 room) ∙ digits_again next cs t.1 small

plain_is : (ds : List ℕ) → is_plain ds ≡ true → (0 < length ds) × (get_or ds 0 0 ≡ 48 → length ds ≡ 1)
plain_is [] e = absurd (true≢false (sym e))
plain_is (c ∷ cs) e = (omega arith, λ zero_first. (let h : eqb (length cs) 0 ≡ true = subst (λ b. cond b (eqb (length cs) 0) true ≡ true) (eq-eqb c 48 zero_first) e in let l = eqb-true (length cs) 0 h in omega arith))

is_plain_from : (ds : List ℕ) → 0 < length ds → get_or ds 0 0 ≢ 48 → is_plain ds ≡ true
is_plain_from [] some_byte ne = absurd (omega arith)
is_plain_from (c ∷ cs) some_byte ne = ap (λ b. cond b (eqb (length cs) 0) true) (ne_eqb c 48 ne)

decimal_plain : (n : ℕ) → n < 18446744073709551616 → is_plain (decimal n) ≡ true
decimal_plain zero small = ap is_plain (decimal_digit 0 (omega arith))
decimal_plain (suc n) small = let f = first_decimal (suc n) (omega arith) small in is_plain_from (decimal (suc n)) (decimal_nonempty (suc n) small) (λ e. absurd (omega arith))

pub number_takes : (word : List ℕ) (n : ℕ) → number_of word ≡ Some n → (word ≡ decimal n) × (n < 18446744073709551616)
unfolding number_of
number_takes word n e = cases (is_plain word) refl e
  where
    cases : (b : Bool) → is_plain word ≡ b → cond b (digits_from 0 word) None ≡ Some n → (word ≡ decimal n) × (n < 18446744073709551616)
    cases true is e =
        let d = digits_take 0 word n (omega arith) e in
        let p = plain_is word is in
        (sym (ap decimal d.1 ∙ decimal-digits_value own word d.0 p.0 p.1 (subst (λ k. k < 18446744073709551616) d.1 d.2)), d.2)
    cases false is e = absurd cc

pub number_again : (n : ℕ) → n < 18446744073709551616 → number_of (decimal n) ≡ Some n
unfolding number_of
number_again n small =
    let v = digits_value-decimal own n small in
    ap (λ b. cond b (digits_from 0 (decimal n)) None) (decimal_plain n small)
    ∙ (digits_again 0 (decimal n) (digits_decimal own n small) (subst (λ k. k < 18446744073709551616) (sym v) small) ∙ ap (λ k. Some k) v)

pub up_to_takes : (most : ℕ) (word : List ℕ) (n : ℕ) → number_up_to most word ≡ Some n → (word ≡ decimal n) × (n ≤ most)
unfolding number_up_to
up_to_takes most word n e =
    let a = bind_some (number_of word) (λ k. cond (nat_le k most) (Some k) None) n e in
    let b = cond_some (nat_le a.0 most) a.0 n a.2 in
    let t = number_takes word a.0 a.1 in
    (t.0 ∙ ap decimal b.1, subst (λ k. k ≤ most) b.1 (leb-true a.0 most b.0))

pub up_to_again : (most n : ℕ) → n ≤ most → n < 18446744073709551616 → number_up_to most (decimal n) ≡ Some n
unfolding number_up_to
up_to_again most n le small = ap (λ o. o >>= λ k. cond (nat_le k most) (Some k) None) (number_again n small) ∙ ap (λ b. cond b (Some n) None) (le-leb n most le)

-- ---- which bytes don't stand in numbers

no_digit : (at c : ℕ) → (at < 48) ⊎ (57 < at) → is_ascii_digit c ≡ true → c ≢ at
no_digit at c out is same =
    let t = both (leb 48 c) (leb c 57) is in
    let low = leb-true 48 c t.0 in
    let high = leb-true c 57 t.1 in
    ⊎_elim (λ l. absurd (omega arith)) (λ h. absurd (omega arith)) out

free_digits : (at : ℕ) (ds : List ℕ) → (at < 48) ⊎ (57 < at) → all_ascii_digits ds ≡ true → is_free at ds ≡ true
free_digits at [] out all = refl
free_digits at (c ∷ cs) out all = let t = both (is_ascii_digit c) (all_ascii_digits cs) all in free_byte at c cs (no_digit at c out t.0) (free_digits at cs out t.1)

pub free_decimal : (at n : ℕ) → (at < 48) ⊎ (57 < at) → n < 18446744073709551616 → is_free at (decimal n) ≡ true
free_decimal at n out small = free_digits at (decimal n) out (digits_decimal own n small)

pub free_signed : (at : ℕ) (z : ℤ) → (at < 48) ⊎ (57 < at) → 45 ≢ at → FitsSigned w64 z → is_free at (signed_decimal z) ≡ true
free_signed at (pos n) out ne fits = free_decimal at n out (let s : n < 9223372036854775808 = fits.sfits in omega arith)
free_signed at (negsuc n) out ne fits = free_byte at 45 (decimal (suc n)) ne (free_decimal at (suc n) out (let s : n < 9223372036854775808 = fits.sfits in omega arith))

-- the first byte of a number is a digit
pub first_digit : (n : ℕ) → n < 18446744073709551616 → (c : ℕ) × (cs : List ℕ) × (decimal n ≡ c ∷ cs) × (is_ascii_digit c ≡ true)
first_digit n small = cases (decimal n) refl
  where
    cases : (ds : List ℕ) → decimal n ≡ ds → (c : ℕ) × (cs : List ℕ) × (decimal n ≡ c ∷ cs) × (is_ascii_digit c ≡ true)
    cases [] is = let some_byte = decimal_nonempty n small in absurd (let l : length (decimal n) ≡ 0 = ap length is in omega arith)
    cases (c ∷ cs) is = (c, cs, is, (both (is_ascii_digit c) (all_ascii_digits cs) (subst (λ l. all_ascii_digits l ≡ true) is (digits_decimal own n small))).0)

-- ---- signed numbers

pub signed_takes : (word : List ℕ) (z : ℤ) → signed_of word ≡ Some z → (word ≡ signed_decimal z) × FitsSigned w64 z
unfolding negative_of positive_of
signed_takes [] z e = absurd cc
signed_takes (c ∷ cs) z e = cases (eqb c 45) refl e
  where
    cases : (b : Bool) → eqb c 45 ≡ b → cond b (negative_of cs) (positive_of (c ∷ cs)) ≡ Some z → (c ∷ cs ≡ signed_decimal z) × FitsSigned w64 z
    cases true is e =
        let a = bind_some (number_of cs) (λ k. cond (nat_lt 0 k && nat_le k 9223372036854775808) (Some (negsuc (k - 1))) None) z e in
        let b = cond_some (nat_lt 0 a.0 && nat_le a.0 9223372036854775808) (negsuc (a.0 - 1)) z a.2 in
        let t = both (nat_lt 0 a.0) (nat_le a.0 9223372036854775808) b.0 in
        let some_number = ltb-true 0 a.0 t.0 in
        let most = leb-true a.0 9223372036854775808 t.1 in
        let same : c ≡ 45 = eqb-true c 45 is in
        let one_more : a.0 ≡ suc (a.0 - 1) = omega arith in
        subst (λ (y : ℤ). (c ∷ cs ≡ signed_decimal y) × FitsSigned w64 y) b.1
        ((λ i. same i ∷ ((number_takes cs a.0 a.1).0 ∙ ap decimal one_more) i), record { sfits = (let s : a.0 - 1 < 9223372036854775808 = omega arith in s) })
    cases false is e =
        let a = bind_some (number_of (c ∷ cs)) (λ k. cond (nat_lt k 9223372036854775808) (Some (pos k)) None) z e in
        let b = cond_some (nat_lt a.0 9223372036854775808) (pos a.0) z a.2 in
        subst (λ (y : ℤ). (c ∷ cs ≡ signed_decimal y) × FitsSigned w64 y) b.1
        ((number_takes (c ∷ cs) a.0 a.1).0, record { sfits = ltb-true a.0 9223372036854775808 b.0 })

pub signed_again : (z : ℤ) → FitsSigned w64 z → signed_of (signed_decimal z) ≡ Some z
unfolding negative_of positive_of
signed_again (pos n) fits =
    let small : n < 9223372036854775808 = fits.sfits in
    let f = first_digit n (omega arith) in
    let ne : f.0 ≢ 45 = no_digit 45 f.0 (inl (omega arith)) f.3 in
    let start : signed_of (decimal n) ≡ positive_of (decimal n) = ap signed_of f.2 ∙ (ap (λ b. cond b (negative_of f.1) (positive_of (f.0 ∷ f.1))) (ne_eqb f.0 45 ne) ∙ ap positive_of (sym f.2)) in
    start ∙ (ap (λ o. o >>= λ k. cond (nat_lt k 9223372036854775808) (Some (pos k)) None) (number_again n (omega arith)) ∙ ap (λ b. cond b (Some (pos n)) None) (lt-ltb n 9223372036854775808 small))
signed_again (negsuc n) fits =
    let small : n < 9223372036854775808 = fits.sfits in
    let one_less : suc n - 1 ≡ n = omega arith in
    ap (λ o. o >>= λ k. cond (nat_lt 0 k && nat_le k 9223372036854775808) (Some (negsuc (k - 1))) None) (number_again (suc n) (omega arith))
    ∙ (ap (λ b. cond b (Some (negsuc (suc n - 1))) None) (and_true (nat_lt 0 (suc n)) (nat_le (suc n) 9223372036854775808) (lt-ltb 0 (suc n) (omega arith)) (le-leb (suc n) 9223372036854775808 (omega arith)))
    ∙ ap (λ m. Some (negsuc m)) one_less)

-- ---- lists

abbrev AllFit : List ℤ → Type 0
AllFit zs = AllByRecursion (FitsSigned w64) zs

numbers_take : (ws : List (List ℕ)) (zs : List ℤ) → numbers_of ws ≡ Some zs → (ws ≡ map signed_decimal zs) × AllFit zs
numbers_take [] zs e = subst (λ (ys : List ℤ). ([] ≡ map signed_decimal ys) × AllFit ys) (some_is [] zs e) (refl, tt)
numbers_take (w ∷ ws) zs e =
    let a = bind_some (signed_of w) (λ z. numbers_of ws >>= λ ys. Some (z ∷ ys)) zs e in
    let b = bind_some (numbers_of ws) (λ ys. Some (a.0 ∷ ys)) zs a.2 in
    let first = signed_takes w a.0 a.1 in
    let rest = numbers_take ws b.0 b.1 in
    subst (λ (ys : List ℤ). (w ∷ ws ≡ map signed_decimal ys) × AllFit ys) (some_is (a.0 ∷ b.0) zs b.2) ((λ i. first.0 i ∷ rest.0 i), (first.1, rest.1))

numbers_again : (zs : List ℤ) → AllFit zs → numbers_of (map signed_decimal zs) ≡ Some zs
numbers_again [] fits = refl
numbers_again (z ∷ zs) fits =
    ap (λ o. o >>= λ y. numbers_of (map signed_decimal zs) >>= λ ys. Some (y ∷ ys)) (signed_again z fits.0)
    ∙ ap (λ o. o >>= λ ys. Some (z ∷ ys)) (numbers_again zs fits.1)

pub free_numbers : (at : ℕ) (zs : List ℤ) → (at < 48) ⊎ (57 < at) → 45 ≢ at → AllFit zs → AllFree at (map signed_decimal zs)
free_numbers at [] out ne fits = tt
free_numbers at (z ∷ zs) out ne fits = (free_signed at z out ne fits.0, free_numbers at zs out ne fits.1)

no_some : {A : Type 0} (x : A) → None ≡ Some x → ⊥
no_some x e = cc

closed_is : (ps : List (List ℕ)) (x : List ℕ) → closed ps ≡ Some x → ps ≡ x ∷ [] ∷ []
closed_is [] x e = absurd cc
closed_is (p ∷ []) x e = absurd cc
closed_is (p ∷ [] ∷ []) x e = ap (λ y. y ∷ [] ∷ []) (some_is p x e)
closed_is (p ∷ (c ∷ cs) ∷ []) x e = absurd (no_some x (sym (ap (λ b. cond b (Some p) None) (ne_eqb (length (c ∷ cs)) 0 (λ z. absurd (omega arith)))) ∙ e))
closed_is (p ∷ q ∷ r ∷ rs) x e = absurd cc

inside_takes : (word inside : List ℕ) → inside_of word ≡ Some inside → word ≡ codes "[" ++ inside ++ codes "]"
inside_takes [] inside e = absurd cc
inside_takes (c ∷ cs) inside e = cases (eqb c 91) refl e
  where
    cases : (b : Bool) → eqb c 91 ≡ b → cond b (closed (split 93 cs)) None ≡ Some inside → c ∷ cs ≡ codes "[" ++ inside ++ codes "]"
    cases true is e = let same : c ≡ 91 = eqb-true c 91 is in let t = text_of_parts 93 cs (inside ∷ [] ∷ []) (closed_is (split 93 cs) inside e) in λ i. same i ∷ t i
    cases false is e = absurd cc

inside_again : (inside : List ℕ) → is_free 93 inside ≡ true → inside_of (codes "[" ++ inside ++ codes "]") ≡ Some inside
inside_again inside free = ap closed (split_joined 93 inside ([] ∷ []) (free, (refl, tt)))

listed_some : (inside : List ℕ) → 0 < length inside → listed_of inside ≡ numbers_of (split 44 inside)
listed_some [] h = absurd (omega arith)
listed_some (c ∷ cs) h = ap (λ b. cond b (Some []) (numbers_of (split 44 (c ∷ cs)))) (ne_eqb (length (c ∷ cs)) 0 (λ z. absurd (omega arith)))

listed_takes : (inside : List ℕ) (zs : List ℤ) → listed_of inside ≡ Some zs → (inside ≡ joined 44 (map signed_decimal zs)) × AllFit zs
listed_takes [] zs e = subst (λ (ys : List ℤ). ([] ≡ joined 44 (map signed_decimal ys)) × AllFit ys) (some_is [] zs e) (refl, tt)
listed_takes (c ∷ cs) zs e = let n = numbers_take (split 44 (c ∷ cs)) zs (sym (listed_some (c ∷ cs) (omega arith)) ∙ e) in (text_of_parts 44 (c ∷ cs) (map signed_decimal zs) n.0, n.1)

first_signed : (z : ℤ) → FitsSigned w64 z → 0 < length (signed_decimal z)
first_signed (pos n) fits = decimal_nonempty n (let s : n < 9223372036854775808 = fits.sfits in omega arith)
first_signed (negsuc n) fits = omega arith

joined_some : (w : List ℕ) (ws : List (List ℕ)) → 0 < length w → 0 < length (joined 44 (w ∷ ws))
joined_some w [] h = h
joined_some [] (x ∷ xs) h = absurd (omega arith)
joined_some (c ∷ cs) (x ∷ xs) h = omega arith

listed_again : (zs : List ℤ) → AllFit zs → listed_of (joined 44 (map signed_decimal zs)) ≡ Some zs
listed_again [] fits = refl
listed_again (z ∷ zs) fits =
    listed_some (joined 44 (map signed_decimal (z ∷ zs))) (joined_some (signed_decimal z) (map signed_decimal zs) (first_signed z fits.0))
    ∙ (ap numbers_of (split_joined 44 (signed_decimal z) (map signed_decimal zs) (free_numbers 44 (z ∷ zs) (inl (omega arith)) (λ e. absurd (omega arith)) fits)) ∙ numbers_again (z ∷ zs) fits)

pub list_takes : (word : List ℕ) (zs : List ℤ) → list_of word ≡ Some zs → (word ≡ list_text zs) × FitsList zs
unfolding list_of
list_takes word zs e =
    let a = bind_some (inside_of word) (λ inside. listed_of inside >>= λ ys. cond (nat_le (length ys) most_numbers) (Some ys) None) zs e in
    let b = bind_some (listed_of a.0) (λ ys. cond (nat_le (length ys) most_numbers) (Some ys) None) zs a.2 in
    let c = cond_some (nat_le (length b.0) most_numbers) b.0 zs b.2 in
    let l = listed_takes a.0 b.0 b.1 in
    subst (λ (ys : List ℤ). (word ≡ list_text ys) × FitsList ys) c.1
    (inside_takes word a.0 a.1 ∙ ap (λ t. codes "[" ++ t ++ codes "]") l.0, (leb-true (length b.0) most_numbers c.0, l.1))

pub list_again : (zs : List ℤ) → FitsList zs → list_of (list_text zs) ≡ Some zs
unfolding list_of
list_again zs fits =
    ap (λ o. o >>= λ inside. listed_of inside >>= λ ys. cond (nat_le (length ys) most_numbers) (Some ys) None) (inside_again (joined 44 (map signed_decimal zs)) (free_joined 93 44 (map signed_decimal zs) (λ e. absurd (omega arith)) (free_numbers 93 zs (inr (omega arith)) (λ e. absurd (omega arith)) fits.1)))
    ∙ (ap (λ o. o >>= λ ys. cond (nat_le (length ys) most_numbers) (Some ys) None) (listed_again zs fits.1) ∙ ap (λ b. cond b (Some zs) None) (le-leb (length zs) most_numbers fits.0))

pub free_list : (at : ℕ) (zs : List ℤ) → at < 44 → FitsList zs → is_free at (list_text zs) ≡ true
free_list at zs low fits =
    let inside = free_joined at 44 (map signed_decimal zs) (λ e. absurd (omega arith)) (free_numbers at zs (inl (omega arith)) (λ e. absurd (omega arith)) fits.1) in
    free_append at (codes "[" ++ joined 44 (map signed_decimal zs)) (codes "]") (free_byte at 91 (joined 44 (map signed_decimal zs)) (λ e. absurd (omega arith)) inside) (free_byte at 93 [] (λ e. absurd (omega arith)) refl)

-- ---- what code finds of brackets

pub closed_none : (ps : List (List ℕ)) → next ps ≡ None → closed ps ≡ None
closed_none [] e = refl
closed_none (p ∷ []) e = refl
closed_none (p ∷ q ∷ qs) e = absurd cc

pub closed_found : (ps : List (List ℕ)) (x behind : List ℕ) → next ps ≡ Some (x, split 93 behind) → length behind ≡ 0 → closed ps ≡ Some x
closed_found ps x [] e none = ap closed (next_is ps (x, split 93 []) e).0
closed_found ps x (c ∷ cs) e none = absurd (omega arith)

pub closed_more : (ps : List (List ℕ)) (x behind : List ℕ) → next ps ≡ Some (x, split 93 behind) → 0 < length behind → closed ps ≡ None
closed_more ps x behind e some_byte = ap closed (next_is ps (x, split 93 behind) e).0 ∙ cases (split 93 behind) refl
  where
    cases : (qs : List (List ℕ)) → split 93 behind ≡ qs → closed (x ∷ qs) ≡ None
    cases [] is = refl
    cases ([] ∷ []) is = let none : behind ≡ [] = text_of_parts 93 behind ([] ∷ []) is in absurd (let l : length behind ≡ 0 = ap length none in omega arith)
    cases ((c ∷ cs) ∷ []) is = ap (λ b. cond b (Some x) None) (ne_eqb (length (c ∷ cs)) 0 (λ z. absurd (omega arith)))
    cases (q ∷ r ∷ rs) is = refl

-- ---- the loop over the numbers of a list

-- what is read behind these
abbrev pub more : List ℤ → Option (List ℤ) → Option (List ℤ)
more front read = read >>= λ zs. Some (front ++ zs)

pub more_start : (read : Option (List ℤ)) → more [] read ≡ read
more_start None = refl
more_start (Some zs) = refl

pub more_one : (front : List ℤ) (rest word behind : List ℕ) (z : ℤ) → next (split 44 rest) ≡ Some (word, split 44 behind) → signed_of word ≡ Some z → more (front ++ z ∷ []) (numbers_of (split 44 behind)) ≡ more front (numbers_of (split 44 rest))
more_one front rest word behind z cut read =
    cases (numbers_of (split 44 behind))
    ∙ sym (ap (λ ws. more front (numbers_of ws)) (next_is (split 44 rest) (word, split 44 behind) cut).0 ∙ ap (λ o. more front (o >>= λ y. numbers_of (split 44 behind) >>= λ ys. Some (y ∷ ys))) read)
  where
    cases : (o : Option (List ℤ)) → more (front ++ z ∷ []) o ≡ more front (o >>= λ ys. Some (z ∷ ys))
    cases None = refl
    cases (Some ys) = ap (λ l. Some l) (append_assoc front (z ∷ []) ys)

pub more_last : (front : List ℤ) (rest : List ℕ) (z : ℤ) (whole : Option (List ℤ)) → next (split 44 rest) ≡ None → signed_of rest ≡ Some z → more front (numbers_of (split 44 rest)) ≡ whole → whole ≡ Some (front ++ z ∷ [])
more_last front rest z whole cut read e = sym e ∙ (ap (λ ws. more front (numbers_of ws)) (one_word 44 rest cut) ∙ ap (λ o. more front (o >>= λ y. Some (y ∷ []))) read)

pub more_fault : (front : List ℤ) (rest word behind : List ℕ) (whole : Option (List ℤ)) → next (split 44 rest) ≡ Some (word, split 44 behind) → signed_of word ≡ None → more front (numbers_of (split 44 rest)) ≡ whole → whole ≡ None
more_fault front rest word behind whole cut read e =
    sym e ∙ (ap (λ ws. more front (numbers_of ws)) (next_is (split 44 rest) (word, split 44 behind) cut).0 ∙ ap (λ o. more front (o >>= λ y. numbers_of (split 44 behind) >>= λ ys. Some (y ∷ ys))) read)

pub more_fault_last : (front : List ℤ) (rest : List ℕ) (whole : Option (List ℤ)) → next (split 44 rest) ≡ None → signed_of rest ≡ None → more front (numbers_of (split 44 rest)) ≡ whole → whole ≡ None
more_fault_last front rest whole cut read e = sym e ∙ (ap (λ ws. more front (numbers_of ws)) (one_word 44 rest cut) ∙ ap (λ o. more front (o >>= λ y. Some (y ∷ []))) read)

-- ---- the loop over the digits of a number

pub digit_fault : (e : stop.Stop) (n : ℕ) (word : List ℕ) (i : ℕ) (whole : Option ℕ) → i < length word → Gives {X = ℕ} {Y = ℕ} (λ x. x) (Err e) (more_digit n (get_or word i 0)) → digits_from n (drop i word) ≡ whole → Gives {X = ℕ} {Y = ℕ} (λ x. x) (Err e) whole
digit_fault stops.NoMemory n word i whole lt h is = tt
digit_fault stops.Fault n word i whole lt h is = sym is ∙ (at_drop_more (digits_from n) word i 0 lt ∙ ap (λ o. o >>= λ m. digits_from m (drop (i + 1) word)) h)

-- ---- the exits of the loop over the numbers of a list

pub number_fault : {X : Type 0} (view : X → List ℤ) (e : stop.Stop) (front : List ℤ) (rest word behind : List ℕ) (whole : Option (List ℤ)) → next (split 44 rest) ≡ Some (word, split 44 behind) → Gives {X = ℤ} {Y = ℤ} (λ z. z) (Err e) (signed_of word) → more front (numbers_of (split 44 rest)) ≡ whole → Gives view (Err e) whole
number_fault view stops.NoMemory front rest word behind whole cut h is = tt
number_fault view stops.Fault front rest word behind whole cut h is = more_fault front rest word behind whole cut h is

pub last_fault : {X : Type 0} (view : X → List ℤ) (e : stop.Stop) (front : List ℤ) (rest : List ℕ) (whole : Option (List ℤ)) → next (split 44 rest) ≡ None → Gives {X = ℤ} {Y = ℤ} (λ z. z) (Err e) (signed_of rest) → more front (numbers_of (split 44 rest)) ≡ whole → Gives view (Err e) whole
last_fault view stops.NoMemory front rest whole cut h is = tt
last_fault view stops.Fault front rest whole cut h is = more_fault_last front rest whole cut h is
