-- Reading a text line by line. That this is the grammar's reading is proved of it.
use Rattle.std.specs.Prelude.{◌≡◌, ℕ, ◌+◌, ◌==◌, Bool, false, Option, Some, None, Result, Ok, Err, List, [], ◌∷◌, ◌++◌, codes, if◌then◌else◌}
use Rattle.std.specs.Str.{bytes_eq}
use Rattle.pool_monitor.specs.declared.journal.LoopHistory.{LoopHistory}
use Rattle.journal_text.specs.declared.reader.Reader.{Reader}
use Rattle.journal_text.specs.declared.reader.Reader.TheVariants.{Between, Open, Ended}
use Rattle.journal_text.specs.declared.version.Version.{Version}
use Rattle.journal_text.specs.Versions.{version_of}
use Rattle.journal_text.specs.declared.stop.JournalStop as stop
use Rattle.journal_text.specs.Refusal.{split, Told}
use Rattle.journal_text.specs.Reading.{◌>>=◌, loop_of, entry_of}

-- a loop without entries
abbrev pub fresh_loop : ℕ → LoopHistory
fresh_loop n = record { iterations = n; entries = [] }

-- the line begins a loop, behind these
unfoldable pub opens : List LoopHistory → List ℕ → Option Reader
opens journal line = do
  n ← loop_of (split 32 line)
  Some (Open journal (fresh_loop n))

-- whether a line begins as that of a loop does
abbrev pub begins_loop : List ℕ → Bool
begins_loop [] = false
begins_loop (byte ∷ bytes) = byte == 108

-- the end of a text, behind all lines
abbrev pub finished : ℕ → Reader → List ℕ → Result (List LoopHistory) ℕ
finished line (Ended journal) [] = Ok journal
finished line (Ended journal) (byte ∷ bytes) = Err line
finished line (Between journal) rest = Err line
finished line (Open journal h) rest = Err line

-- reading goes on behind a line that was taken, and else the line is at fault
abbrev pub then_or : {A : Type 0} → ℕ → Option A → (A → Result (List LoopHistory) ℕ) → Result (List LoopHistory) ℕ
then_or line None others = Err line
then_or line (Some taken) others = others taken

module _ (v : Version) where
  -- the line is an entry of this loop
  unfoldable pub adds : List LoopHistory → LoopHistory → List ℕ → Option Reader
  adds journal h line = do
    e ← entry_of v h.iterations (split 32 line)
    Some (Open journal (record { iterations = h.iterations; entries = h.entries ++ e ∷ [] }))

  abbrev pub in_loop : List LoopHistory → LoopHistory → List ℕ → Option Reader
  in_loop journal h line = if begins_loop line then opens (journal ++ h ∷ []) line else adds journal h line

  -- what was read behind the header, with one line more
  abbrev pub step : Reader → List ℕ → Option Reader
  step (Between journal) line = if bytes_eq line (codes "end") then Some (Ended journal) else opens journal line
  step (Open journal h) line = if bytes_eq line (codes "end") then Some (Ended (journal ++ h ∷ [])) else in_loop journal h line
  step (Ended journal) line = None

  -- the journal that the parts of a text spell, of which the last is behind all line feeds, or the line at fault
  abbrev pub pieces_of : ℕ → Reader → List (List ℕ) → Result (List LoopHistory) ℕ
  pieces_of line reader [] = Err line
  pieces_of line reader (rest ∷ []) = finished line reader rest
  pieces_of line reader (front ∷ other ∷ parts) = then_or line (step reader front) (λ next. pieces_of (line + 1) next (other ∷ parts))

-- the same of all parts, of which the first says the version
abbrev pub journal_of : List (List ℕ) → Result (List LoopHistory) ℕ
journal_of [] = Err 1
journal_of (rest ∷ []) = Err 1
journal_of (front ∷ other ∷ parts) = then_or 1 (version_of front) (λ v. pieces_of v 2 (Between []) (other ∷ parts))

-- what reading returned is this, unless memory ran out
abbrev pub Reads : Result (List LoopHistory) stop.JournalStop → Result (List LoopHistory) ℕ → Type 0
Reads result read = Told result (λ told. read ≡ told)
