-- The token list of a text: the text has at most 1 MiB, is UTF-8, and is cut without gaps into white
-- space, comments and tokens. A rule of this project.
use Rattle.std.specs.Prelude.{◌≤◌, ℕ, List, [], ◌∷◌, length, Option, Some, None}
use Rattle.std.specs.Str.{IsUtf8}
use Rattle.comet_syntax.specs.declared.limits.TheConstants.{MOST_BYTES}
use Rattle.comet_syntax.specs.declared.token.Token.{Token}
use Rattle.comet_syntax.specs.declared.token.TokenKind.{TokenKind}
use Rattle.comet_syntax.specs.Place.{index_of, place_of}
use Rattle.comet_syntax.specs.Tokens.Front.{IsSkipped, IsToken}

-- the token of this kind between two rests of the text
abbrev pub token_at : List ℕ → List ℕ → TokenKind → List ℕ → Token
token_at text from kind rest = record { kind = kind; start = index_of text from; end = index_of text rest; place = place_of text from }

-- what stands between them: this token, or none
abbrev pub tokens_at : List ℕ → List ℕ → Option TokenKind → List ℕ → List Token
tokens_at text from None rest = []
tokens_at text from (Some kind) rest = token_at text from kind rest ∷ []

-- The tokens between two rests of the text.
pub data AreCut (text : List ℕ) : List ℕ → List Token → List ℕ → Type 0 where
  nothing : {from : List ℕ}
      → AreCut text from [] from
  skipped : {from behind rest : List ℕ} {tokens : List Token}
      → IsSkipped from behind
      → AreCut text behind tokens rest
      → AreCut text from tokens rest
  taken : {from behind rest : List ℕ} {kind : TokenKind} {tokens : List Token}
      → IsToken from kind behind
      → AreCut text behind tokens rest
      → AreCut text from (token_at text from kind behind ∷ tokens) rest

pub record HasTokens (text : List ℕ) (tokens : List Token) : Type 0 where
  pub short : length text ≤ MOST_BYTES
  pub utf8 : IsUtf8 text
  pub cut : AreCut text text tokens []
