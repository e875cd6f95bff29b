-- The values of options: a file's name, which isn't empty, or a number of one to twenty decimal digits that lies in the
-- option's range. A rule of this project.
use Rattle.std.specs.Prelude.{ℕ, Bool, false, not, ◌&&◌, ◌==◌, nat_lt, nat_le, List, [], ◌∷◌, length, Option, Some, None, if◌then◌else◌}
use Rattle.std.specs.Char.{is_ascii_digit}
use Rattle.std.specs.List.{list_all}
use Rattle.std.specs.Str.Parse.{digits_value}

-- a word that isn't empty and doesn't begin with `-`
abbrev pub is_name : List ℕ → Bool
is_name [] = false
is_name (byte ∷ bytes) = not (byte == 45)

-- the file that a value names
abbrev pub file : List ℕ → Option (List ℕ)
file [] = None
file (byte ∷ bytes) = Some (byte ∷ bytes)

abbrev pub is_number : List ℕ → Bool
is_number value = nat_lt 0 (length value) && nat_le (length value) 20 && list_all is_ascii_digit value

-- the number that a value is, at least `least` and at most `most`
abbrev pub number : ℕ → ℕ → List ℕ → Option ℕ
number least most value =
    let n = digits_value 10 value in
    if is_number value && nat_le least n && nat_le n most then Some n else None
