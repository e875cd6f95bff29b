-- Where the last header of a text stands. A rule of this project.
use Rattle.std.specs.Prelude.{◌≡◌, ℕ, ◌+◌, Option, Some, None, List, [], ◌∷◌, ◌++◌, length}
use Rattle.std.specs.List.{AllByRecursion}
use Rattle.journal_text.specs.declared.version.Version.{Version}
use Rattle.journal_text.specs.Versions.{IsVersion, version_of}
use Rattle.journal_text.specs.Grammar.{ended}
use Rattle.journal_text.specs.Refusal.{split}

-- the line is a version's header
pub record IsHeader (line : List ℕ) : Type 0 where
  pub version : Version
  pub known : IsVersion version
  pub header : line ≡ version.header

-- none of these lines is a header
abbrev pub NoneIsHeader : List (List ℕ) → Type 0
NoneIsHeader lines = AllByRecursion (λ line. IsHeader line → ⊥) lines

-- The last of a text's lines that is a header begins at this byte. The rest behind the last line feed is a line too.
pub record IsLastHeader (text : List ℕ) (at : ℕ) : Type 0 where
  pub before : List (List ℕ)
  pub here : List ℕ
  pub behind : List (List ℕ)
  pub lines : split 10 text ≡ before ++ here ∷ behind
  pub header : IsHeader here
  pub place : at ≡ length (ended before)
  pub last : NoneIsHeader behind

-- the place of a line that begins here where it is a header, or else the one before
abbrev pub header_or : Option Version → ℕ → Option ℕ → Option ℕ
header_or None at found = found
header_or (Some version) at found = Some at

-- the last place of a header among the parts of a text, of which the first begins here, or else the one before
abbrev pub last_in : ℕ → Option ℕ → List (List ℕ) → Option ℕ
last_in at found [] = found
last_in at found (part ∷ parts) = last_in (at + (length part + 1)) (header_or (version_of part) at found) parts
