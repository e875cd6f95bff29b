-- What is cut off the front of a text: white space, a comment, or a token. A token is a string, or the
-- longest lexeme that can be read. From the language.
use Rattle.std.specs.Prelude.{◌≡◌, ◌≤◌, ◌<◌, ◌^◌, ℕ, pos, true, false, List, ◌∷◌, ◌++◌, length, Option, Some, None}
use Rattle.comet_syntax.specs.declared.token.Word.{Word}
use Rattle.comet_syntax.specs.declared.token.TokenKind.{TokenKind}
use Rattle.comet_syntax.specs.declared.token.TokenKind.TheVariants as kinds
use Rattle.comet_syntax.specs.Lexeme.{is_space, is_number, IsLexeme}
use Rattle.comet_syntax.specs.Name.{is_name}
use Rattle.comet_syntax.specs.Number.{number_of_digits}
use Rattle.comet_syntax.specs.Word.{spelling}
use Rattle.comet_syntax.specs.Tokens.Comment.{IsComment, begins_comment}
use Rattle.comet_syntax.specs.Tokens.StringLiteral.{IsStringBehindQuote}

-- White space or a comment stands at the front of the text, and this behind it.
pub data IsSkipped : List ℕ → List ℕ → Type 0 where
  space : {c : ℕ} {rest : List ℕ}
      → is_space c ≡ true
      → IsSkipped (c ∷ rest) rest
  comment : {text rest : List ℕ}
      → IsComment text rest
      → IsSkipped text rest

-- the longest lexeme at the front of the text, and what stands behind it
pub record IsLongest (text lexeme rest : List ℕ) : Type 0 where
  pub spelled : text ≡ lexeme ++ rest
  pub is_lexeme : IsLexeme lexeme
  pub longest : (longer behind : List ℕ) → text ≡ longer ++ behind → IsLexeme longer → length longer ≤ length lexeme

-- the kind of token that a lexeme is; a number that doesn't fit 64 bits signed is none
pub data IsOfKind (lexeme : List ℕ) : TokenKind → Type 0 where
  a_name : is_name lexeme ≡ true
      → IsOfKind lexeme (kinds.Name lexeme)
  a_number : is_number lexeme ≡ true
      → number_of_digits lexeme < 2 ^ 63
      → IsOfKind lexeme (kinds.Number (pos (number_of_digits lexeme)))
  a_word : {word : Word}
      → lexeme ≡ spelling word
      → IsOfKind lexeme (kinds.Word word)

-- A token of this kind stands at the front of the text, and this behind it.
pub data IsToken : List ℕ → TokenKind → List ℕ → Type 0 where
  a_string : {c : ℕ} {text value rest : List ℕ}
      → c ≡ 34
      → IsStringBehindQuote text value rest
      → IsToken (c ∷ text) (kinds.Str value) rest
  a_lexeme : {text lexeme rest : List ℕ} {kind : TokenKind}
      → begins_comment text ≡ false
      → IsLongest text lexeme rest
      → IsOfKind lexeme kind
      → IsToken text kind rest

-- what stands at the front of the text: a token of this kind, or white space or a comment
abbrev pub IsFront : List ℕ → Option TokenKind → List ℕ → Type 0
IsFront text (Some kind) rest = IsToken text kind rest
IsFront text None rest = IsSkipped text rest
