-- The entries of a journal, each with its line there, as a port replays them. A rule of this project.
use Rattle.std.specs.Prelude.{ℕ, List, map}
use Rattle.best_turn.specs.declared.replays.Entry.{Entry}
use Rattle.best_monitor.specs.declared.request.Reply.{Reply}
use Rattle.pool_monitor.specs.declared.request.DeskRequest.{DeskRequest}
use Rattle.replay_port.specs.declared.lines.EntryLine.{EntryLine}

-- an entry, with its line
abbrev pub Line : Type 0
Line = ℕ × Entry DeskRequest Reply

-- the entries that these refer to
abbrev pub lines_of : List EntryLine → List Line
lines_of entries = map (λ l. (l.line, l.entry.now)) entries

-- their requests, each with its reply
abbrev pub pairs_of : List Line → List (DeskRequest × Reply)
pairs_of lines = map (λ l. (l.1.request, l.1.reply)) lines
