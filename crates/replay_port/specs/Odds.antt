-- With which line and texts a port answers a request with which the entries that are left don't begin. Expected is
-- what was asked, found what the journal has. A rule of this project.
use Rattle.std.specs.Prelude.{ℕ, List, [], ◌∷◌, codes}
use Rattle.std.specs.Fmt.{decimal}
use Rattle.best_monitor.specs.Port.{Odds}
use Rattle.pool_monitor.specs.declared.request.DeskRequest.{DeskRequest}
use Rattle.journal_text.specs.Texts.{joined, request_text}
use Rattle.replay_port.specs.Lines.{Line}

-- a request with its iteration before it, as a journal writes it
abbrev pub asked_text : ℕ → DeskRequest → List ℕ
asked_text iteration request = joined 32 (decimal iteration ∷ request_text request ∷ [])

-- the line of the next entry, or the loop's where none is left
abbrev pub line_of : ℕ → List Line → ℕ
line_of loop [] = loop
line_of loop (l ∷ ls) = l.0

-- what the journal has next
abbrev pub found_text : List Line → List ℕ
found_text [] = codes "nothing"
found_text (l ∷ ls) = asked_text l.1.iteration l.1.request

-- the line, what was asked in this iteration, and what the journal has
abbrev pub odds_of : ℕ → ℕ → List Line → DeskRequest → Odds
odds_of loop iteration left request = (line_of loop left, asked_text iteration request, found_text left)
