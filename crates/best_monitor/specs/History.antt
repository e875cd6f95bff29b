-- A history of a board is legal where each entry's reply is the board's at its place. Its fold is the board
-- behind it. A rule of this project.
use Rattle.std.specs.Prelude.{List}
use Rattle.best_turn.specs.History as history
use Rattle.best_turn.specs.declared.replays.Entry.{Entry}
use Rattle.best_monitor.specs.declared.monitor.Monitor.{Monitor}
use Rattle.best_monitor.specs.declared.request.Request.{Request}
use Rattle.best_monitor.specs.declared.request.Reply.{Reply}
use Rattle.best_monitor.specs.Board.{board_after, board_answer, IsDeclared}

-- the board behind a history
abbrev pub fold : List Monitor → List (Entry Request Reply) → List Monitor
fold board entries = history.fold_of board_after board entries

-- each request is to a monitor of the board, and each reply is the board's behind the entries before it
abbrev pub IsLegal : List Monitor → List (Entry Request Reply) → Type 0
IsLegal board entries = history.IsLegal IsDeclared board_after board_answer board entries
