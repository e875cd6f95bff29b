-- What reading a text gives. Where it is no journal's, that is the first line through which no journal begins so. The
-- rest behind the last line feed counts as the last line, together with the end of the text. A rule of this project.
use Rattle.std.specs.Prelude.{◌≡◌, ◌≢◌, ℕ, ◌+◌, Result, Ok, Err, List, [], ◌∷◌, ◌++◌, length, if◌then◌else◌, ◌==◌}
use Rattle.pool_monitor.specs.declared.journal.LoopHistory.{LoopHistory}
use Rattle.journal_text.specs.declared.stop.JournalStop as stop
use Rattle.journal_text.specs.declared.stop.JournalStop.TheVariants as stops
use Rattle.journal_text.specs.declared.version.Version.{Version}
use Rattle.journal_text.specs.Versions.{IsVersion}
use Rattle.journal_text.specs.Grammar.{IsJournal, journal_lines, Spells}

-- a part one byte longer at its front
abbrev pub behind_byte : ℕ → List (List ℕ) → List (List ℕ)
behind_byte byte [] = []
behind_byte byte (part ∷ parts) = (byte ∷ part) ∷ parts

-- the parts of a text between the places of a byte, one more than there are such places
abbrev pub split : ℕ → List ℕ → List (List ℕ)
split at [] = [] ∷ []
split at (byte ∷ bytes) = if byte == at then [] ∷ split at bytes else behind_byte byte (split at bytes)

-- some journal begins with these lines in one of the versions
pub record Begins (lines : List (List ℕ)) : Type 0 where
  pub version : Version
  pub known : IsVersion version
  pub journal : List LoopHistory
  pub within : IsJournal version journal
  pub more : List (List ℕ)
  pub begun : journal_lines version journal ≡ lines ++ more

-- This line, counted from 1, is the first through which no journal begins as the text does.
pub record IsFirstFault (text : List ℕ) (line : ℕ) : Type 0 where
  pub before : List (List ℕ)
  pub here : List ℕ
  pub behind : List (List ℕ)
  pub lines : split 10 text ≡ before ++ here ∷ behind
  pub number : line ≡ length before + 1
  pub begins : Begins before
  pub whole : behind ≢ [] → Begins (before ++ here ∷ []) → ⊥
  pub last : behind ≡ [] → (journal : List LoopHistory) → Spells text journal → ⊥

-- what reading a text gives: the journal that it spells, or the line at fault
abbrev pub IsReading : List ℕ → Result (List LoopHistory) ℕ → Type 0
IsReading text (Ok journal) = Spells text journal
IsReading text (Err line) = IsFirstFault text line

-- what a function returned is such a reading, unless memory ran out
abbrev pub Told : Result (List LoopHistory) stop.JournalStop → (Result (List LoopHistory) ℕ → Type 0) → Type 0
Told (Ok journal) Is = Is (Ok journal)
Told (Err stops.NoMemory) Is = Unit {0}
Told (Err (stops.Fault line)) Is = Is (Err line)
