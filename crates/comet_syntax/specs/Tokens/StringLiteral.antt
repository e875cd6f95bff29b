-- A string stands between quotes. It holds no line feed. A quote, a backslash, a line feed and a tab
-- are spelled by a backslash and a letter. From the language.
use Rattle.std.specs.Prelude.{◌≡◌, ◌==◌, ◌||◌, ℕ, Bool, true, not, List, [], ◌∷◌, Option, Some, None, if◌then◌else◌}

-- the byte that a backslash and this one spell
abbrev pub escape : ℕ → Option ℕ
escape byte =
    if byte == 110 then Some 10
    else (if byte == 116 then Some 9
    else (if byte == 34 then Some 34
    else (if byte == 92 then Some 92
    else None)))

-- neither quote nor backslash nor line feed
abbrev pub is_plain : ℕ → Bool
is_plain byte = not (byte == 34 || byte == 92 || byte == 10)

-- The spelling of one byte of a string stands at the front of the text, and this behind it.
pub data IsSpelledByte : List ℕ → ℕ → List ℕ → Type 0 where
  plain : {c : ℕ} {rest : List ℕ}
      → is_plain c ≡ true
      → IsSpelledByte (c ∷ rest) c rest
  escaped : {c letter byte : ℕ} {rest : List ℕ}
      → c ≡ 92
      → escape letter ≡ Some byte
      → IsSpelledByte (c ∷ letter ∷ rest) byte rest

-- What stands behind a string's opening quote, the string's bytes, and what stands behind its closing
-- quote.
pub data IsStringBehindQuote : List ℕ → List ℕ → List ℕ → Type 0 where
  quote : {c : ℕ} {rest : List ℕ}
      → c ≡ 34
      → IsStringBehindQuote (c ∷ rest) [] rest
  more : {byte : ℕ} {text behind value rest : List ℕ}
      → IsSpelledByte text byte behind
      → IsStringBehindQuote behind value rest
      → IsStringBehindQuote text (byte ∷ value) rest
