-- The loops of reports ask only the monitor and the pool that are declared.
use Rattle.std.proofs.Common.{◌≡◌, ℕ, ℤ, ◌<◌, List, [], ◌∷◌, length, subst, sym, arith}
use Rattle.best_turn.specs.declared.replays.Entry.{Entry}
use Rattle.best_turn.specs.History.{fold_of, IsLegal}
use Rattle.best_turn.proofs.Histories.{still}
use Rattle.best_monitor.specs.declared.monitor.Monitor.{Monitor}
use Rattle.best_monitor.specs.declared.request.Request.TheVariants.{Has}
use Rattle.best_monitor.specs.declared.request.Request.{Request}
use Rattle.best_monitor.specs.declared.request.Reply.{Reply}
use Rattle.best_monitor.specs.Board as board
use Rattle.pool_monitor.specs.declared.request.DeskRequest.{DeskRequest}
use Rattle.pool_monitor.specs.declared.request.DeskRequest.TheVariants.{Best, Pool}
use Rattle.pool_monitor.specs.declared.request.PoolRequest.TheVariants.{Size}
use Rattle.pool_monitor.specs.Desk.{DeskState, IsDeclared, desk_after, desk_answer}
use Rattle.pool_monitor.specs.DeskLaws.{takes_same}
use Rattle.parall_loop.specs.Iteration.{Asks, Ends}
use Rattle.loop_tests.specs.Asking.{report_of, add_of, asks_of, asks_desk}

pub declared : (monitors : List Monitor) (values : List ℤ) (k : ℕ) (replies : List Reply) (q : Request) → length monitors ≡ 1 → asks_of values k replies ≡ Asks q → board.IsDeclared monitors q
declared monitors values k [] q one e = let is : report_of values k ≡ q = cc in subst (board.IsDeclared monitors) is (omega arith)
declared monitors values k (r ∷ rs) q one e = let c : Ends _ ≡ Asks q = e in cc

pub desk_declared : (desk : DeskState) (values : List ℤ) (k : ℕ) (replies : List Reply) (q : DeskRequest) → 0 < length desk.board → 0 < length desk.pools → asks_desk values k replies ≡ Asks q → IsDeclared desk q
desk_declared desk values k [] q some_monitor some_pool e = let is : Best (report_of values k) ≡ q = cc in subst (IsDeclared desk) is some_monitor
desk_declared desk values k (r ∷ []) q some_monitor some_pool e = let is : Pool (add_of values k) ≡ q = cc in subst (IsDeclared desk) is some_pool
desk_declared desk values k (r ∷ s ∷ rs) q some_monitor some_pool e = let c : Ends _ ≡ Asks q = e in cc

-- a legal history of a desk leaves its monitor and its pool declared
pub both_declared : (desk left : DeskState) (history : List (Entry DeskRequest Reply)) → IsLegal IsDeclared desk_after desk_answer desk history → left ≡ fold_of desk_after desk history → length desk.board ≡ 1 → length desk.pools ≡ 1 → (0 < length left.board) × (0 < length left.pools)
both_declared desk left history legal is one_board one_pool =
    let some_monitor : 0 < length desk.board = omega arith in let some_pool : 0 < length desk.pools = omega arith in (
      subst (λ (d : DeskState). 0 < length d.board) (sym is) (still IsDeclared desk_after desk_answer takes_same desk history (Best (Has 0)) legal some_monitor),
      subst (λ (d : DeskState). 0 < length d.pools) (sym is) (still IsDeclared desk_after desk_answer takes_same desk history (Pool (Size 0)) legal some_pool),
    )
