-- The longest lexeme at the front of a text, and that there is one next lexeme at most.
use Rattle.std.specs.Prelude.{◌≡◌, ◌<◌, ◌≤◌, ◌+◌, ◌-◌, ◌⊎◌, ℕ, Bool, true, false, not, ◌&&◌, ◌||◌, nat_le, List, [], ◌∷◌, ◌++◌, length, take, refl, if◌then◌else◌}
use Rattle.std.specs.List.{list_all, list_any, prefix_len, take_while}
use Rattle.std.specs.Str.{bytes_eq}
use Rattle.std.proofs.Common.{arith, rules, ap, sym, ◌∙◌, subst, inl, inr, length-append}
use Rattle.std.proofs.Math.Seq.{take-append_seam}
use Rattle.std.proofs.lemmas.List.{length-take-le}
use Rattle.std.proofs.lemmas.Slice.Eq.{bytes_eq-Decides}
use Rattle.comet_syntax.specs.Lexeme.{is_space, is_letter, is_digit, is_word_byte, is_word, is_number, is_sign, signs, IsLexeme, a_word, a_number, a_sign}

pub or_cases : (a b : Bool) → (a || b) ≡ true → (a ≡ true) ⊎ (b ≡ true)
or_cases true b h = inl refl
or_cases false b h = inr h

pub and_left : (a b : Bool) → (a && b) ≡ true → a ≡ true
and_left true b h = refl
and_left false b h = cc

pub and_right : (a b : Bool) → (a && b) ≡ true → b ≡ true
and_right true b h = h
and_right false b h = cc

pub and_both : (a b : Bool) → a ≡ true → b ≡ true → (a && b) ≡ true
and_both true b h k = k
and_both false b h k = cc

pub or_left : (a b : Bool) → a ≡ true → (a || b) ≡ true
or_left true b h = refl
or_left false b h = cc

pub or_right : (a b : Bool) → b ≡ true → (a || b) ≡ true
or_right true b h = refl
or_right false b h = h

pub not_false : (b : Bool) → not b ≡ true → b ≡ false
not_false true h = cc
not_false false h = refl

pub not_true : (b : Bool) → not b ≡ false → b ≡ true
not_true true h = refl
not_true false h = cc

-- what passes a test that equal texts pass is one of the texts
pub among_passes : (q : List ℕ → Bool) (words : List (List ℕ)) (w : List ℕ) → list_any (λ word. bytes_eq word w) words ≡ true → list_all q words ≡ true → q w ≡ true
among_passes q [] w h k = cc
among_passes q (word ∷ words) w h k = elim (or_cases (bytes_eq word w) _ h) [
  | inl e ↦ subst (λ x. q x ≡ true) ((bytes_eq-Decides word w).0 e) (and_left _ _ k)
  | inr e ↦ among_passes q words w e (and_right (q word) _ k)
]

-- no sign has more than three bytes
pub sign_is_short : (w : List ℕ) → is_sign w ≡ true → nat_le (length w) 3 ≡ true
unfolding is_sign
sign_is_short w h = among_passes (λ x. nat_le (length x) 3) signs w h refl

pub sign_at_most : (w : List ℕ) → is_sign w ≡ true → length w + 0 ≤ 3
sign_at_most w h = let short : nat_le (length w) 3 ≡ true = sign_is_short w h in grind arith

abbrev begins_as_sign : List ℕ → Bool
begins_as_sign [] = false
begins_as_sign (c ∷ cs) = not (is_word_byte c) && not (is_space c)

-- a sign begins with no byte of a word, and with no white space
pub sign_begins : (w : List ℕ) → is_sign w ≡ true → begins_as_sign w ≡ true
unfolding is_sign
sign_begins w h = among_passes begins_as_sign signs w h refl

-- the code tries the longer signs first
pub sign_step : (text : List ℕ) (shorter : ℕ) → shorter < 3
    → ((sign rest : List ℕ) → text ≡ sign ++ rest → is_sign sign ≡ true → length sign + shorter ≤ 3)
    → (3 - shorter ≤ length text → is_sign (take (3 - shorter) text) ≡ false)
    → (sign rest : List ℕ) → text ≡ sign ++ rest → is_sign sign ≡ true → length sign + (shorter + 1) ≤ 3
sign_step text shorter low before here sign rest e h =
    let at_most : length sign + shorter ≤ 3 = before sign rest e h in
    let whole : length text ≡ length sign + length rest = ap length e ∙ simp length-append in
    let below : length sign + shorter ≡ 3 → ⊥ = λ f.
    let size : 3 - shorter ≡ length sign = omega arith in
    let front : take (3 - shorter) text ≡ sign = ap (λ n. take n text) size ∙ ap (take (length sign)) e ∙ take-append_seam sign rest in
    let not_here : is_sign (take (3 - shorter) text) ≡ false = here (omega arith) in
    cc (ap is_sign front) in
    omega arith

pub letter_no_space : (c : ℕ) → is_letter c ≡ true → is_space c ≡ false
letter_no_space c h = grind arith

pub digit_no_space : (c : ℕ) → is_digit c ≡ true → is_space c ≡ false
digit_no_space c h = grind arith

pub digit_no_letter : (c : ℕ) → is_digit c ≡ true → is_letter c ≡ false
digit_no_letter c h = grind arith

take_one_more : (n x : ℕ) (xs : List ℕ) → take (1 + n) (x ∷ xs) ≡ x ∷ take n xs
take_one_more n x xs = search rules

-- what a test finds from the front
pub all_prefix : (p : ℕ → Bool) (xs : List ℕ) → list_all p (take (prefix_len p xs) xs) ≡ true
all_prefix p [] = refl
all_prefix p (x ∷ xs) = elim (p x) as (λ b. p x ≡ b → list_all p (take (if b then 1 + prefix_len p xs else 0) (x ∷ xs)) ≡ true)
    [ true ↦ (λ e. rw (take_one_more (prefix_len p xs) x xs) (and_both _ _ e (all_prefix p xs))) | false ↦ (λ e. refl) ] refl

pub prefix_within : (p : ℕ → Bool) (xs : List ℕ) → prefix_len p xs ≤ length xs
prefix_within p [] = omega arith
prefix_within p (x ∷ xs) = elim (p x) as (λ b. (if b then 1 + prefix_len p xs else 0) ≤ length (x ∷ xs))
    [ true ↦ omega (arith, prefix_within p xs) | false ↦ omega arith ]

-- a front whose bytes all pass is no longer than what a test finds
pub front_within : (p : ℕ → Bool) (xs ys : List ℕ) → list_all p xs ≡ true → length xs ≤ prefix_len p (xs ++ ys)
front_within p [] ys h = omega arith
front_within p (x ∷ xs) ys h =
    let here : p x ≡ true = and_left _ _ h in
    rw here (omega (arith, front_within p xs ys (and_right (p x) _ h)))

-- how many bytes a test finds from the front
pub found_length : (p : ℕ → Bool) (xs : List ℕ) → length (take_while p xs) ≡ prefix_len p xs
found_length p xs = length-take-le (prefix_len p xs) xs (prefix_within p xs)

-- a lexeme has a first byte, which is no white space
pub lexeme_head : (w : List ℕ) → IsLexeme w → (c : ℕ) × (cs : List ℕ) × (w ≡ c ∷ cs) × (is_space c ≡ false)
lexeme_head [] (a_word h) = absurd cc
lexeme_head [] (a_number h) = absurd cc
lexeme_head [] (a_sign h) = absurd (cc (sign_begins [] h))
lexeme_head (c ∷ cs) (a_word h) = (c, cs, refl, letter_no_space c (and_left _ _ h))
lexeme_head (c ∷ cs) (a_number h) = (c, cs, refl, digit_no_space c (and_left _ _ h))
lexeme_head (c ∷ cs) (a_sign h) = (c, cs, refl, not_false (is_space c) (and_right (not (is_word_byte c)) _ (sign_begins (c ∷ cs) h)))

pub clash : (b : Bool) → b ≡ true → b ≡ false → ⊥
clash b h k = cc

-- a front whose bytes pass is no longer than what a test finds
pub longest_run : (p : ℕ → Bool) (xs w r : List ℕ) → xs ≡ w ++ r → list_all p w ≡ true → length w ≤ length (take_while p xs)
longest_run p xs w r e h =
    let most : length w ≤ prefix_len p (w ++ r) = front_within p w r h in
    let same : prefix_len p xs ≡ prefix_len p (w ++ r) = ap (prefix_len p) e in
    omega (arith, found_length p xs)

letter_in_word : (c : ℕ) → is_letter c ≡ true → is_word_byte c ≡ true
letter_in_word c h = or_left _ _ h

digit_in_word : (c : ℕ) → is_digit c ≡ true → is_word_byte c ≡ true
digit_in_word c h = or_right (is_letter c) _ h

-- where the first byte is a letter, a lexeme is a word
pub begins_word : (c : ℕ) (cs : List ℕ) → is_letter c ≡ true → IsLexeme (c ∷ cs) → is_word (c ∷ cs) ≡ true
begins_word c cs letter (a_word h) = h
begins_word c cs letter (a_number h) = absurd (cc (digit_no_letter c (and_left _ _ h)))
begins_word c cs letter (a_sign h) = absurd (cc (letter_in_word c letter, not_false (is_word_byte c) (and_left _ _ (sign_begins (c ∷ cs) h))))

-- where it is a digit, a number
pub begins_number : (c : ℕ) (cs : List ℕ) → is_digit c ≡ true → IsLexeme (c ∷ cs) → is_number (c ∷ cs) ≡ true
begins_number c cs digit (a_word h) = absurd (cc (digit_no_letter c digit, and_left (is_letter c) _ h))
begins_number c cs digit (a_number h) = h
begins_number c cs digit (a_sign h) = absurd (cc (digit_in_word c digit, not_false (is_word_byte c) (and_left _ _ (sign_begins (c ∷ cs) h))))

word_bytes : (c : ℕ) (cs : List ℕ) → is_word (c ∷ cs) ≡ true → list_all is_word_byte (c ∷ cs) ≡ true
word_bytes c cs h = and_both _ _ (letter_in_word c (and_left _ _ h)) (and_right (is_letter c) _ h)

pub longest_word : (c : ℕ) (cs w r : List ℕ) → is_letter c ≡ true → c ∷ cs ≡ w ++ r → IsLexeme w → length w ≤ length (take_while is_word_byte (c ∷ cs))
longest_word c cs [] r letter e h = omega arith
longest_word c cs (d ∷ ds) r letter e h =
    let same : c ≡ d = cc in
    longest_run is_word_byte (c ∷ cs) (d ∷ ds) r e (word_bytes d ds (begins_word d ds (subst (λ x. is_letter x ≡ true) same letter) h))

pub longest_number : (c : ℕ) (cs w r : List ℕ) → is_digit c ≡ true → c ∷ cs ≡ w ++ r → IsLexeme w → length w ≤ length (take_while is_digit (c ∷ cs))
longest_number c cs [] r digit e h = omega arith
longest_number c cs (d ∷ ds) r digit e h =
    let same : c ≡ d = cc in
    longest_run is_digit (c ∷ cs) (d ∷ ds) r e (begins_number d ds (subst (λ x. is_digit x ≡ true) same digit) h)

found_behind : (p : ℕ → Bool) (c : ℕ) (cs : List ℕ) → p c ≡ true → take (length (take_while p (c ∷ cs))) (c ∷ cs) ≡ c ∷ take (prefix_len p cs) cs
found_behind p c cs h = ap (λ n. take n (c ∷ cs)) (found_length p (c ∷ cs)) ∙ (rw h (take_one_more (prefix_len p cs) c cs))

pub word_found : (c : ℕ) (cs : List ℕ) → is_letter c ≡ true → IsLexeme (take (length (take_while is_word_byte (c ∷ cs))) (c ∷ cs))
word_found c cs letter = subst IsLexeme (sym (found_behind is_word_byte c cs (letter_in_word c letter)))
    (a_word (and_both _ _ letter (all_prefix is_word_byte cs)))

pub number_found : (c : ℕ) (cs : List ℕ) → is_digit c ≡ true → IsLexeme (take (length (take_while is_digit (c ∷ cs))) (c ∷ cs))
number_found c cs digit = subst IsLexeme (sym (found_behind is_digit c cs digit))
    (a_number (and_both _ _ digit (all_prefix is_digit cs)))

pub words_of : (xs : List ℕ) (x : ℕ) (ys : List ℕ) (len : ℕ) → xs ≡ x ∷ ys → is_letter x ≡ true → len ≡ length (take_while is_word_byte xs) → IsLexeme (take len xs)
words_of xs x ys len e letter size = subst (λ n. IsLexeme (take n xs)) (sym size) (subst (λ z. IsLexeme (take (length (take_while is_word_byte z)) z)) (sym e) (word_found x ys letter))

pub words_longest : (xs : List ℕ) (x : ℕ) (ys : List ℕ) (len : ℕ) → xs ≡ x ∷ ys → is_letter x ≡ true → len ≡ length (take_while is_word_byte xs)
    → (w r : List ℕ) → xs ≡ w ++ r → IsLexeme w → length w ≤ len
words_longest xs x ys len e letter size w r f h =
    let most : length w ≤ length (take_while is_word_byte (x ∷ ys)) = longest_word x ys w r letter (sym e ∙ f) h in
    let same : length (take_while is_word_byte xs) ≡ length (take_while is_word_byte (x ∷ ys)) = ap (λ z. length (take_while is_word_byte z)) e in
    omega arith

pub numbers_of : (xs : List ℕ) (x : ℕ) (ys : List ℕ) (len : ℕ) → xs ≡ x ∷ ys → is_digit x ≡ true → len ≡ length (take_while is_digit xs) → IsLexeme (take len xs)
numbers_of xs x ys len e digit size = subst (λ n. IsLexeme (take n xs)) (sym size) (subst (λ z. IsLexeme (take (length (take_while is_digit z)) z)) (sym e) (number_found x ys digit))

pub numbers_longest : (xs : List ℕ) (x : ℕ) (ys : List ℕ) (len : ℕ) → xs ≡ x ∷ ys → is_digit x ≡ true → len ≡ length (take_while is_digit xs)
    → (w r : List ℕ) → xs ≡ w ++ r → IsLexeme w → length w ≤ len
numbers_longest xs x ys len e digit size w r f h =
    let most : length w ≤ length (take_while is_digit (x ∷ ys)) = longest_number x ys w r digit (sym e ∙ f) h in
    let same : length (take_while is_digit xs) ≡ length (take_while is_digit (x ∷ ys)) = ap (λ z. length (take_while is_digit z)) e in
    omega arith
