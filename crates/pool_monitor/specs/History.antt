-- A history of a desk is legal where each entry's reply is the desk's at its place. Its fold is the desk behind
-- it. A rule of this project.
use Rattle.std.specs.Prelude.{List}
use Rattle.best_turn.specs.History as history
use Rattle.best_turn.specs.declared.replays.Entry.{Entry}
use Rattle.best_monitor.specs.declared.request.Reply.{Reply}
use Rattle.pool_monitor.specs.declared.request.DeskRequest.{DeskRequest}
use Rattle.pool_monitor.specs.Desk.{DeskState, desk_after, desk_answer, IsDeclared}

-- the desk behind a history
abbrev pub fold : DeskState → List (Entry DeskRequest Reply) → DeskState
fold desk entries = history.fold_of desk_after desk entries

-- each request is to a monitor or a pool of the desk, and each reply is the desk's behind the entries before it
abbrev pub IsLegal : DeskState → List (Entry DeskRequest Reply) → Type 0
IsLegal desk entries = history.IsLegal IsDeclared desk_after desk_answer desk entries
