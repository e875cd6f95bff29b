-- The refusal of a text that has no token list. It is `TooLong` where the text is too long. Otherwise
-- the least place decides, between the first byte that isn't UTF-8 and the first place from which
-- nothing can be read; at one place `Encoding` comes first. A rule of this project.
use Rattle.std.specs.Prelude.{◌≡◌, ◌≤◌, ◌<◌, ◌⊎◌, ℕ, List, [], ◌∷◌, length, take, if◌then◌else◌}
use Rattle.std.specs.Str.{IsValidUpTo}
use Rattle.cbl_base.specs.declared.place.Place.{Place}
use Rattle.comet_syntax.specs.declared.limits.TheConstants.{MOST_BYTES}
use Rattle.comet_syntax.specs.declared.stop.FormCause.{FormCause}
use Rattle.comet_syntax.specs.declared.stop.FormCause.TheVariants.{Encoding, TooLong, BadToken, WideNumber}
use Rattle.comet_syntax.specs.declared.stop.LexStop.{LexStop}
use Rattle.comet_syntax.specs.declared.stop.LexStop.TheVariants.{Fault, NoMemory}
use Rattle.comet_syntax.specs.declared.token.Token.{Token}
use Rattle.comet_syntax.specs.declared.token.TokenKind.{TokenKind}
use Rattle.comet_syntax.specs.Lexeme.{is_digit}
use Rattle.comet_syntax.specs.Place.{first_place, place_behind, index_of, place_of}
use Rattle.comet_syntax.specs.Tokens.Front.{IsSkipped, IsToken}
use Rattle.comet_syntax.specs.Tokens.TokenList.{AreCut}

-- something is left, and nothing can be read of it
pub record IsStuck (rest : List ℕ) : Type 0 where
  pub more : rest ≡ [] → ⊥
  pub not_skipped : (behind : List ℕ) → IsSkipped rest behind → ⊥
  pub no_token : (kind : TokenKind) (behind : List ℕ) → IsToken rest kind behind → ⊥

-- The text can be cut up to this rest, and no further.
pub record StopsAt (text rest : List ℕ) : Type 0 where
  pub tokens : List Token
  pub cut : AreCut text text tokens rest
  pub stuck : IsStuck rest

-- where a digit stands and no token can be read, the number is too wide
abbrev pub stuck_cause : List ℕ → FormCause
stuck_cause [] = BadToken
stuck_cause (c ∷ cs) = if is_digit c then WideNumber else BadToken

pub data HasTokenFault (text : List ℕ) : Place → FormCause → Type 0 where
  too_long :
      MOST_BYTES < length text
      → HasTokenFault text first_place TooLong
  not_utf8 : {valid : ℕ}
      → length text ≤ MOST_BYTES
      → IsValidUpTo text valid
      → ((rest : List ℕ) → StopsAt text rest → valid ≤ index_of text rest)
      → HasTokenFault text (place_behind (take valid text)) Encoding
  not_read : {rest : List ℕ}
      → length text ≤ MOST_BYTES
      → StopsAt text rest
      → ((valid : ℕ) → IsValidUpTo text valid → index_of text rest < valid)
      → HasTokenFault text (place_of text rest) (stuck_cause rest)

-- nothing is left, or nothing can be read of it
abbrev pub IsEnd : List ℕ → Type 0
IsEnd rest = (rest ≡ []) ⊎ IsStuck rest

-- why the tokens of a text aren't given; memory may run out at any time
abbrev pub IsLexStop : List ℕ → LexStop → Type 0
IsLexStop text (Fault place cause) = HasTokenFault text place cause
IsLexStop text NoMemory = Unit {0}
