-- The lexemes of a text. A lexeme is a word (a letter or `_`, and then letters, digits and `_`), a
-- number (one or more digits), or a sign of the language. A rule of this project, as in C.
use Rattle.std.specs.Prelude.{◌≡◌, ◌==◌, ℕ, Bool, true, false, ◌&&◌, ◌||◌, nat_le, List, [], ◌∷◌, codes}
use Rattle.std.specs.List.{list_all, list_any}
use Rattle.std.specs.Str.{bytes_eq}

-- space, tab, CR and LF
abbrev pub is_space : ℕ → Bool
is_space c = c == 32 || c == 9 || c == 13 || c == 10

-- `A` to `Z`, `a` to `z` and `_`
abbrev pub is_letter : ℕ → Bool
is_letter c = (nat_le 65 c && nat_le c 90) || (nat_le 97 c && nat_le c 122) || c == 95

-- `0` to `9`
abbrev pub is_digit : ℕ → Bool
is_digit c = nat_le 48 c && nat_le c 57

abbrev pub is_word_byte : ℕ → Bool
is_word_byte c = is_letter c || is_digit c

abbrev pub is_word : List ℕ → Bool
is_word [] = false
is_word (c ∷ cs) = is_letter c && list_all is_word_byte cs

abbrev pub is_number : List ℕ → Bool
is_number [] = false
is_number (c ∷ cs) = is_digit c && list_all is_digit cs

-- the signs of the language
abbrev pub signs : List (List ℕ)
signs = codes "(" ∷ codes ")" ∷ codes "{" ∷ codes "}" ∷ codes "[" ∷ codes "]" ∷ codes "," ∷ codes ";"
    ∷ codes ":" ∷ codes ":=" ∷ codes ":=:" ∷ codes "<-" ∷ codes "=" ∷ codes "==" ∷ codes "!=" ∷ codes "<"
    ∷ codes "<=" ∷ codes ">" ∷ codes ">=" ∷ codes "+" ∷ codes "-" ∷ codes "*" ∷ codes "/" ∷ codes "%"
    ∷ codes "++" ∷ codes "--" ∷ codes "+=" ∷ codes "-=" ∷ codes "!" ∷ codes "&&" ∷ codes "||" ∷ codes "<<"
    ∷ codes ".." ∷ codes "." ∷ codes "@" ∷ codes "?" ∷ []

unfoldable pub is_sign : List ℕ → Bool
is_sign w = list_any (λ sign. bytes_eq sign w) signs

pub data IsLexeme (w : List ℕ) : Type 0 where
  a_word : is_word w ≡ true → IsLexeme w
  a_number : is_number w ≡ true → IsLexeme w
  a_sign : is_sign w ≡ true → IsLexeme w
