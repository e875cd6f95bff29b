-- What the loop of reports asks: each iteration reports its value, with the number behind its own as its list, and ends
-- with whether the best was replaced. Over a desk it adds the same to a pool, and ends with whether that was kept, too.
use Rattle.std.specs.Prelude.{ℕ, ℤ, pos, ◌+ℤ◌, Bool, false, Option, None, Some, Result, Ok, Err, List, [], ◌∷◌, slice_get}
use Rattle.std.specs.Option.{unwrap_or}
use Rattle.best_monitor.specs.declared.port.PortStop.{PortStop}
use Rattle.best_monitor.specs.declared.request.Request.{Request}
use Rattle.best_monitor.specs.declared.request.Request.TheVariants.{Report}
use Rattle.best_monitor.specs.declared.request.Reply.{Reply}
use Rattle.best_monitor.specs.declared.request.Reply.TheVariants.{Truth}
use Rattle.pool_monitor.specs.declared.request.PoolRequest.{PoolRequest}
use Rattle.pool_monitor.specs.declared.request.PoolRequest.TheVariants.{Add}
use Rattle.pool_monitor.specs.declared.request.DeskRequest.{DeskRequest}
use Rattle.pool_monitor.specs.declared.request.DeskRequest.TheVariants.{Best, Pool}
use Rattle.parall_loop.specs.Iteration.{Next, Asks, Ends}

-- a reply says yes
abbrev pub is_yes : Reply → Bool
is_yes (Truth holds) = holds
is_yes _ = false

-- for what an iteration broke off
abbrev pub stop_of : {T : Type 0} → Result T PortStop → Option PortStop
stop_of (Ok ended) = None
stop_of (Err stop) = Some stop

abbrev pub value_of : List ℤ → ℕ → ℤ
value_of values k = unwrap_or (slice_get values k) (pos 0)

abbrev pub list_of : ℕ → List ℤ
list_of k = (pos k +ℤ pos 1) ∷ []

abbrev pub report_of : List ℤ → ℕ → Request
report_of values k = Report 0 (value_of values k) (pos 0) (list_of k)

abbrev pub asks_of : List ℤ → ℕ → List Reply → Next Request (Result Bool PortStop)
asks_of values k [] = Asks (report_of values k)
asks_of values k (r ∷ rs) = Ends (Ok (is_yes r))

abbrev pub add_of : List ℤ → ℕ → PoolRequest
add_of values k = Add 0 (value_of values k) (list_of k)

abbrev pub asks_desk : List ℤ → ℕ → List Reply → Next DeskRequest (Result (Bool × Bool) PortStop)
asks_desk values k [] = Asks (Best (report_of values k))
asks_desk values k (r ∷ []) = Asks (Pool (add_of values k))
asks_desk values k (r ∷ s ∷ rs) = Ends (Ok (is_yes r, is_yes s))
