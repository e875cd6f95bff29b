-- What the grammar sees of a token: whether it is a name, a number or a string, or which sign or keyword it is.
-- A rule of this project.
use Rattle.std.specs.Prelude.{ℕ, Bool, true, false, nat_eq, List, [], ◌∷◌, ◌||◌}
use denote.Enum.Declared.{tag_of}
use Rattle.comet_syntax.specs.contracts.token.Word.{the_type}
use Rattle.comet_syntax.specs.declared.token.Word.{Word}
use Rattle.comet_syntax.specs.declared.token.Token.{Token}
use Rattle.comet_syntax.specs.declared.token.TokenKind.{TokenKind}
use Rattle.comet_syntax.specs.declared.token.TokenKind.TheVariants as kinds

pub data Kind : Type 0 where
  a_name a_number a_string : Kind
  numbered_word : ℕ → Kind

-- a sign or a keyword, by its number among all
abbrev pub a_word : Word → Kind
a_word w = numbered_word (tag_of the_type w)

abbrev pub kind_of : TokenKind → Kind
kind_of (kinds.Name text) = a_name
kind_of (kinds.Number value) = a_number
kind_of (kinds.Str text) = a_string
kind_of (kinds.Word w) = a_word w

abbrev pub kind : Token → Kind
kind t = kind_of t.kind

abbrev pub kind_eq : Kind → Kind → Bool
kind_eq a_name a_name = true
kind_eq a_number a_number = true
kind_eq a_string a_string = true
kind_eq (numbered_word a) (numbered_word b) = nat_eq a b
kind_eq _ _ = false

abbrev pub one_of : List Kind → Kind → Bool
one_of [] k = false
one_of (j ∷ js) k = kind_eq j k || one_of js k

-- whether the next token is of one of these kinds
abbrev pub next_in : List Kind → List Token → Bool
next_in ks [] = false
next_in ks (t ∷ ts) = one_of ks (kind t)
