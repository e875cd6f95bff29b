-- The text that a journal is printed as: in the second version where no pool is asked in it, else in the third. A rule
-- of this project.
use Rattle.std.specs.Prelude.{ℕ, Bool, true, false, List, [], ◌∷◌, if◌then◌else◌}
use Rattle.best_turn.specs.declared.replays.Entry.{Entry}
use Rattle.best_monitor.specs.declared.request.Reply.{Reply}
use Rattle.pool_monitor.specs.declared.journal.LoopHistory.{LoopHistory}
use Rattle.pool_monitor.specs.declared.request.DeskRequest.{DeskRequest}
use Rattle.pool_monitor.specs.declared.request.DeskRequest.TheVariants.{Best, Pool}
use Rattle.journal_text.specs.declared.version.Version.{Version}
use Rattle.journal_text.specs.Versions.{version_2, version_3}
use Rattle.journal_text.specs.Grammar.{journal_text}

abbrev pub asks_pool : DeskRequest → Bool
asks_pool (Best request) = false
asks_pool (Pool request) = true

-- whether an entry asks a pool
abbrev pub entries_ask_pool : List (Entry DeskRequest Reply) → Bool
entries_ask_pool [] = false
entries_ask_pool (e ∷ es) = if asks_pool e.request then true else entries_ask_pool es

-- whether an entry of a loop does
abbrev pub loops_ask_pool : List LoopHistory → Bool
loops_ask_pool [] = false
loops_ask_pool (h ∷ hs) = if entries_ask_pool h.entries then true else loops_ask_pool hs

abbrev pub version_for : List LoopHistory → Version
version_for journal = if loops_ask_pool journal then version_3 else version_2

abbrev pub printed : List LoopHistory → List ℕ
printed journal = journal_text (version_for journal) journal
