-- Data: whole numbers in words, which are separated by spaces, tabs and ends of lines. A number is an optional `-` and
-- digits, and fits 64 bits signed. `getInt` gives the next one. From the language.
use Rattle.std.specs.Prelude.{ℕ, ◌+◌, ◌-◌, ◌*◌, ℤ, pos, neg_ℤ, Bool, ◌||◌, ◌&&◌, ◌==◌, nat_le, List, [], ◌∷◌, length, Option, Some, None, slice_set, slice_index_or, if◌then◌else◌}
use Rattle.cbl_base.specs.Arithmetic.{fits_64}
use Rattle.cbl_base.specs.declared.place.Place.{Place}
use Rattle.cbl_base.specs.declared.faults.RunFault.TheVariants.{NoData, BadData}
use Rattle.comet_meaning.specs.Values.{Value, Number, Input}
use Rattle.comet_meaning.specs.Limits.{most_data}
use Rattle.comet_meaning.specs.State.{State}
use Rattle.comet_meaning.specs.Outcome.{Went, Act, ◌>>=◌, give, fault, unless}

abbrev pub is_blank : ℕ → Bool
is_blank c = c == 32 || c == 9 || c == 13 || c == 10

abbrev pub is_digit : ℕ → Bool
is_digit c = nat_le 48 c && nat_le c 57

-- a text without the blanks that it begins with
abbrev pub behind_blanks : List ℕ → List ℕ
behind_blanks [] = []
behind_blanks (c ∷ cs) = if is_blank c then behind_blanks cs else c ∷ cs

-- the word that a text begins with, and what stands behind it
abbrev pub word_of : List ℕ → List ℕ
word_of [] = []
word_of (c ∷ cs) = if is_blank c then [] else c ∷ word_of cs

abbrev pub behind_word : List ℕ → List ℕ
behind_word [] = []
behind_word (c ∷ cs) = if is_blank c then c ∷ cs else behind_word cs

-- the number that digits spell behind those before, if all are digits
abbrev pub digits_from : ℕ → List ℕ → Option ℕ
digits_from n [] = Some n
digits_from n (c ∷ cs) = if is_digit c then digits_from (n * 10 + (c - 48)) cs else None

abbrev pub digits_value : List ℕ → Option ℕ
digits_value [] = None
digits_value (c ∷ cs) = digits_from 0 (c ∷ cs)

abbrev pub negated : Option ℕ → Option ℤ
negated None = None
negated (Some n) = Some (neg_ℤ (pos n))

abbrev pub plain : Option ℕ → Option ℤ
plain None = None
plain (Some n) = Some (pos n)

abbrev pub spelled : List ℕ → Option ℤ
spelled [] = None
spelled (c ∷ cs) = if c == 45 then negated (digits_value cs) else plain (digits_value (c ∷ cs))

-- the number that a word spells must fit
abbrev pub fitting : Place → Option ℤ → Act Value
fitting at None = fault at BadData
fitting at (Some z) = if fits_64 z then give (Number z) else fault at BadData

-- the value of the first word; where there is none the data is at its end
abbrev pub word_value : Place → List ℕ → Act Value
word_value at [] = fault at NoData
word_value at (c ∷ cs) = fitting at (spelled (c ∷ cs))

-- what an input has not read yet
abbrev pub unread : State → Value → List ℕ
unread s (Input k) = slice_index_or s.inputs k []
unread s v = []

abbrev pub read_on : List (List ℕ) → Value → List ℕ → List (List ℕ)
read_on inputs (Input k) rest = slice_set inputs k rest
read_on inputs v rest = inputs

-- an input goes on behind a word
abbrev pub went_on : Value → List ℕ → Value → Act Value
went_on input rest v = λ s. Went v (record s { inputs = read_on s.inputs input rest })

-- the first word of a text becomes its number, and the input goes on behind it
abbrev pub first_word : Place → Value → List ℕ → Act Value
first_word at input text = word_value at (word_of text) >>= went_on input (behind_word text)

-- the next number of an input; data that is too long is bad from its start
unfoldable pub next_number : Place → Value → Act Value
next_number at input = λ s. (do
  _ ← unless (nat_le (length s.data_text) most_data) at BadData
  first_word at input (behind_blanks (unread s input))) s
