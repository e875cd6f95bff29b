-- What is printed of a value that is no array, and texts behind commas. From the language.
use Rattle.std.specs.Prelude.{ℕ, List, [], ◌∷◌, ◌++◌, codes}
use Rattle.std.specs.Fmt.{signed_decimal}
use Rattle.comet_meaning.specs.Values.{Value, Number, Truth, Range, Set}
use Rattle.comet_meaning.specs.Printing.{truth_text, bounds_text, set_text}

abbrev pub plain_text : Value → List ℕ
plain_text (Number z) = signed_decimal z
plain_text (Truth b) = truth_text b
plain_text (Range b) = bounds_text b
plain_text (Set xs) = set_text xs
plain_text v = []

-- texts, each behind a comma
abbrev pub behind_commas : List (List ℕ) → List ℕ
behind_commas [] = []
behind_commas (x ∷ xs) = codes "," ++ x ++ behind_commas xs
