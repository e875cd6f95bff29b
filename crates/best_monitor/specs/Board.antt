-- The step of a board: the monitors after a request, and the reply. A report replaces the best where there
-- is none, its value is less, or its value is equal and its second value less. A rule of this project.
use Rattle.std.specs.Prelude.{ℕ, ℤ, ◌<◌, Bool, true, false, ◌&&◌, ◌||◌, if◌then◌else◌, nat_lt, int_lt, Option, None, Some, List, length, slice_get, slice_set, is_some}
use Rattle.std.specs.Option.{option_map, option_map_or}
use Rattle.std.specs.Ordering.{int_eq}
use Rattle.best_monitor.specs.declared.monitor.Best.{Best}
use Rattle.best_monitor.specs.declared.monitor.Monitor.{Monitor}
use Rattle.best_monitor.specs.declared.request.Request.{Request}
use Rattle.best_monitor.specs.declared.request.Request.TheVariants.{Report, Value, Second, Has, Copy, Stop, Stopped}
use Rattle.best_monitor.specs.declared.request.Reply.{Reply}
use Rattle.best_monitor.specs.declared.request.Reply.TheVariants as reply

-- the monitor that a request names
abbrev pub monitor_of : Request → ℕ
monitor_of (Report m value second list) = m
monitor_of (Value m) = m
monitor_of (Second m) = m
monitor_of (Has m) = m
monitor_of (Copy m room) = m
monitor_of (Stop m) = m
monitor_of (Stopped m) = m

-- a monitor of which nothing was reported
abbrev pub fresh_monitor : Monitor
fresh_monitor = record { best = None; stopped = false }

-- whether a report of this value and second value replaces the best
abbrev pub improves : ℤ → ℤ → Option Best → Bool
improves value second None = true
improves value second (Some best) = int_lt value best.value || (int_eq value best.value && int_lt second best.second)

-- the best value
abbrev pub value_reply : Option Best → Reply
value_reply None = reply.Missing
value_reply (Some best) = reply.Number best.value

-- the best's second value
abbrev pub second_reply : Option Best → Reply
second_reply None = reply.Missing
second_reply (Some best) = reply.Number best.second

-- the best's list, if there is room for it
abbrev pub copy_reply : ℕ → Option Best → Reply
copy_reply room None = reply.Missing
copy_reply room (Some best) = if nat_lt room (length best.list) then reply.Long (length best.list) else reply.List best.list

-- a monitor after a report, and its reply
abbrev pub report_step : Monitor → ℤ → ℤ → List ℤ → Monitor × Reply
report_step monitor value second list =
    if improves value second monitor.best then (record { best = Some (record { value = value; second = second; list = list }); stopped = monitor.stopped }, reply.Truth true) else (monitor, reply.Truth false)

-- a monitor after a request, and its reply
abbrev pub monitor_step : Monitor → Request → Monitor × Reply
monitor_step monitor (Report m value second list) = report_step monitor value second list
monitor_step monitor (Value m) = (monitor, value_reply monitor.best)
monitor_step monitor (Second m) = (monitor, second_reply monitor.best)
monitor_step monitor (Has m) = (monitor, reply.Truth (is_some monitor.best))
monitor_step monitor (Copy m room) = (monitor, copy_reply room monitor.best)
monitor_step monitor (Stop m) = (record { best = monitor.best; stopped = true }, reply.Done)
monitor_step monitor (Stopped m) = (monitor, reply.Truth monitor.stopped)

-- The named monitor takes its step, and the others stay. A request to a monitor that isn't declared has no step.
abbrev pub board_step : List Monitor → Request → Option (List Monitor × Reply)
board_step board request =
    option_map (λ monitor. let next = monitor_step monitor request in (slice_set board (monitor_of request) next.0, next.1)) (slice_get board (monitor_of request))

-- the board after a request
abbrev pub board_after : List Monitor → Request → List Monitor
board_after board request = option_map_or (λ next. next.0) (board_step board request) board

-- its reply
abbrev pub board_answer : List Monitor → Request → Reply
board_answer board request = option_map_or (λ next. next.1) (board_step board request) reply.Missing

-- the board has the monitor that the request names
abbrev pub IsDeclared : List Monitor → Request → Type 0
IsDeclared board request = monitor_of request < length board
