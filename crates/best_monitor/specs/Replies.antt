-- Which replies a request to a board can have, and which requests may want memory. A rule of this project.
use Rattle.std.specs.Prelude.{ℕ, ◌≤◌, length}
use Rattle.best_monitor.specs.declared.request.Request.{Request}
use Rattle.best_monitor.specs.declared.request.Request.TheVariants.{Report, Value, Second, Has, Copy, Stop, Stopped}
use Rattle.best_monitor.specs.declared.request.Reply.{Reply}
use Rattle.best_monitor.specs.declared.request.Reply.TheVariants.{Truth, Number, Missing, Long, Done}
use Rattle.best_monitor.specs.declared.request.Reply.TheVariants.{List as Listed}

-- a reply says yes or no
abbrev pub IsTruth : Reply → Type 0
IsTruth (Truth holds) = Unit {0}
IsTruth _ = ⊥

-- a reply gives a number, or says that there is none
abbrev pub IsValue : Reply → Type 0
IsValue (Number value) = Unit {0}
IsValue Missing = Unit {0}
IsValue _ = ⊥

-- a reply gives a list for which there is room, or says that it is too long or that there is none
abbrev pub IsCopy : ℕ → Reply → Type 0
IsCopy room (Listed list) = length list ≤ room
IsCopy room Missing = Unit {0}
IsCopy room (Long size) = Unit {0}
IsCopy room _ = ⊥

-- a reply says that it is done
abbrev pub IsDone : Reply → Type 0
IsDone Done = Unit {0}
IsDone _ = ⊥

-- the request can have this reply
abbrev pub CanHave : Request → Reply → Type 0
CanHave (Report m value second list) reply = IsTruth reply
CanHave (Value m) reply = IsValue reply
CanHave (Second m) reply = IsValue reply
CanHave (Has m) reply = IsTruth reply
CanHave (Copy m room) reply = IsCopy room reply
CanHave (Stop m) reply = IsDone reply
CanHave (Stopped m) reply = IsTruth reply

-- a list is copied for the reply
abbrev pub CopiesOut : Request → Type 0
CopiesOut (Copy m room) = Unit {0}
CopiesOut _ = ⊥

-- a list is copied for the board or for the reply
abbrev pub TakesMemory : Request → Type 0
TakesMemory (Report m value second list) = Unit {0}
TakesMemory (Copy m room) = Unit {0}
TakesMemory _ = ⊥
