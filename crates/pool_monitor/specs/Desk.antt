-- The step of a desk: that of its board on a request to a monitor, and that of the named pool on one to a pool.
-- A rule of this project.
use Rattle.std.specs.Prelude.{◌<◌, Option, List, length, slice_get, slice_set}
use Rattle.std.specs.Option.{option_map, option_map_or}
use Rattle.best_monitor.specs.declared.monitor.Monitor.{Monitor}
use Rattle.best_monitor.specs.declared.request.Reply.{Reply}
use Rattle.best_monitor.specs.declared.request.Reply.TheVariants as reply
use Rattle.best_monitor.specs.Board as board
use Rattle.pool_monitor.specs.declared.request.PoolRequest.{PoolRequest}
use Rattle.pool_monitor.specs.declared.request.DeskRequest.{DeskRequest}
use Rattle.pool_monitor.specs.declared.request.DeskRequest.TheVariants.{Best, Pool}
use Rattle.pool_monitor.specs.Pool.{PoolState, pool_of, pool_step}

-- the monitors of a program, and its pools
pub record DeskState : Type 0 where
  pub board : List Monitor
  pub pools : List PoolState

-- The named pool takes its step, and the others stay. A request to a pool that isn't declared has no step.
abbrev pub pools_step : List PoolState → PoolRequest → Option (List PoolState × Reply)
pools_step pools request =
    option_map (λ pool. let next = pool_step pool request in (slice_set pools (pool_of request) next.0, next.1)) (slice_get pools (pool_of request))

-- the desk after a request, and the reply, where the monitor or the pool is declared
abbrev pub desk_step : DeskState → DeskRequest → Option (DeskState × Reply)
desk_step desk (Best request) = option_map (λ next. (record { board = next.0; pools = desk.pools }, next.1)) (board.board_step desk.board request)
desk_step desk (Pool request) = option_map (λ next. (record { board = desk.board; pools = next.0 }, next.1)) (pools_step desk.pools request)

-- the desk after a request
abbrev pub desk_after : DeskState → DeskRequest → DeskState
desk_after desk request = option_map_or (λ next. next.0) (desk_step desk request) desk

-- its reply
abbrev pub desk_answer : DeskState → DeskRequest → Reply
desk_answer desk request = option_map_or (λ next. next.1) (desk_step desk request) reply.Missing

-- the desk has the monitor or the pool that the request names
abbrev pub IsDeclared : DeskState → DeskRequest → Type 0
IsDeclared desk (Best request) = board.IsDeclared desk.board request
IsDeclared desk (Pool request) = pool_of request < length desk.pools
