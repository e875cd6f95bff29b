-- Which replies a request to a desk can have, and which requests may want memory. A rule of this project.
use Rattle.best_monitor.specs.declared.request.Reply.{Reply}
use Rattle.best_monitor.specs.declared.request.Reply.TheVariants.{Number}
use Rattle.best_monitor.specs.Replies as board
use Rattle.pool_monitor.specs.declared.request.PoolRequest.{PoolRequest}
use Rattle.pool_monitor.specs.declared.request.PoolRequest.TheVariants.{Add, Size, Rank, Take}
use Rattle.pool_monitor.specs.declared.request.DeskRequest.{DeskRequest}
use Rattle.pool_monitor.specs.declared.request.DeskRequest.TheVariants.{Best, Pool}

-- a reply gives a number
abbrev pub IsNumber : Reply → Type 0
IsNumber (Number value) = Unit {0}
IsNumber _ = ⊥

-- the request to a pool can have this reply
abbrev pub PoolCanHave : PoolRequest → Reply → Type 0
PoolCanHave (Add p value list) reply = board.IsTruth reply
PoolCanHave (Size p) reply = IsNumber reply
PoolCanHave (Rank p rank) reply = board.IsValue reply
PoolCanHave (Take p rank room) reply = board.IsCopy room reply

-- the request can have this reply
abbrev pub CanHave : DeskRequest → Reply → Type 0
CanHave (Best request) reply = board.CanHave request reply
CanHave (Pool request) reply = PoolCanHave request reply

-- a pool copies a list for the reply
abbrev pub PoolCopiesOut : PoolRequest → Type 0
PoolCopiesOut (Take p rank room) = Unit {0}
PoolCopiesOut _ = ⊥

-- a list is copied for the reply
abbrev pub CopiesOut : DeskRequest → Type 0
CopiesOut (Best request) = board.CopiesOut request
CopiesOut (Pool request) = PoolCopiesOut request

-- a pool copies a list for itself or for the reply
abbrev pub PoolTakesMemory : PoolRequest → Type 0
PoolTakesMemory (Add p value list) = Unit {0}
PoolTakesMemory (Take p rank room) = Unit {0}
PoolTakesMemory _ = ⊥

-- a list is copied for the desk or for the reply
abbrev pub TakesMemory : DeskRequest → Type 0
TakesMemory (Best request) = board.TakesMemory request
TakesMemory (Pool request) = PoolTakesMemory request
