-- The two laws of a desk: a request changes no number of monitors or pools, and its reply is one that it can
-- have.
use Rattle.std.specs.Prelude.{◌≡◌, ◌↔◌, ℕ, ◌<◌, Bool, true, false, cond, nat_lt, Option, None, Some, List, length, slice_get, slice_set, slice_index_or, refl}
use Rattle.std.specs.Option.{option_map, option_map_or}
use Rattle.std.proofs.Common.{ap, sym, subst, ◌∙◌}
use Rattle.std.proofs.lemmas.Bool.{ltb-false}
use Rattle.std.proofs.lemmas.List.{length-set}
use Rattle.std.proofs.lemmas.Option.{slice_get-get_or}
use Rattle.best_monitor.specs.declared.monitor.Monitor.{Monitor}
use Rattle.best_monitor.specs.declared.request.Request.{Request}
use Rattle.best_monitor.specs.declared.request.Reply.{Reply}
use Rattle.best_monitor.specs.declared.request.Reply.TheVariants as reply
use Rattle.best_monitor.specs.Board as board
use Rattle.best_monitor.specs.BoardLaws as board_laws
use Rattle.best_monitor.specs.Replies.{IsValue, IsCopy}
use Rattle.pool_monitor.specs.declared.pool.Solution.{Solution}
use Rattle.pool_monitor.specs.declared.request.PoolRequest.{PoolRequest}
use Rattle.pool_monitor.specs.declared.request.PoolRequest.TheVariants.{Add, Size, Rank, Take}
use Rattle.pool_monitor.specs.declared.request.DeskRequest.{DeskRequest}
use Rattle.pool_monitor.specs.declared.request.DeskRequest.TheVariants.{Best, Pool}
use Rattle.pool_monitor.specs.Pool.{PoolState, empty_pool, pool_of, ranked, value_reply, list_reply, pool_step}
use Rattle.pool_monitor.specs.Desk.{DeskState, desk_after, desk_answer, IsDeclared}
use Rattle.pool_monitor.specs.Replies.{PoolCanHave, CanHave}

-- a desk after its board's step
abbrev after_board : DeskState → Option (List Monitor × Reply) → DeskState
after_board desk step = option_map_or (λ (next : DeskState × Reply). next.0) (option_map (λ next. (record { board = next.0; pools = desk.pools }, next.1)) step) desk

-- a request to a monitor changes the board alone
pub board_of_after : (desk : DeskState) (q : Request) → desk_after desk (Best q) ≡ record { board = board.board_after desk.board q; pools = desk.pools }
board_of_after desk q = cases (board.board_step desk.board q)
  where
    cases : (step : Option (List Monitor × Reply)) → after_board desk step ≡ record { board = option_map_or (λ next. next.0) step desk.board; pools = desk.pools }
    cases None = refl
    cases (Some next) = refl

-- its reply is the board's
pub board_answer_of : (desk : DeskState) (q : Request) → desk_answer desk (Best q) ≡ board.board_answer desk.board q
board_answer_of desk q = cases (board.board_step desk.board q)
  where
    cases : (step : Option (List Monitor × Reply)) → option_map_or (λ (next : DeskState × Reply). next.1) (option_map (λ next. (record { board = next.0; pools = desk.pools }, next.1)) step) reply.Missing ≡ option_map_or (λ next. next.1) step reply.Missing
    cases None = refl
    cases (Some next) = refl

-- a desk on which the named pool was this one, or wasn't declared, after a request to it
abbrev pub after_pool : DeskState → PoolRequest → Option PoolState → DeskState
after_pool desk q named = option_map_or (λ (next : DeskState × Reply). next.0) (option_map (λ (next : List PoolState × Reply). (record { board = desk.board; pools = next.0 }, next.1)) (option_map (λ pool. let next = pool_step pool q in (slice_set desk.pools (pool_of q) next.0, next.1)) named)) desk

-- its reply
abbrev pub answer_pool : DeskState → PoolRequest → Option PoolState → Reply
answer_pool desk q named = option_map_or (λ (next : DeskState × Reply). next.1) (option_map (λ (next : List PoolState × Reply). (record { board = desk.board; pools = next.0 }, next.1)) (option_map (λ pool. let next = pool_step pool q in (slice_set desk.pools (pool_of q) next.0, next.1)) named)) reply.Missing

-- a request to a pool leaves the monitors, and as many pools as there were
pub after_pool_board : (desk : DeskState) (q : PoolRequest) (named : Option PoolState) → (after_pool desk q named).board ≡ desk.board
after_pool_board desk q None = refl
after_pool_board desk q (Some pool) = refl

pub after_pool_length : (desk : DeskState) (q : PoolRequest) (named : Option PoolState) → length (after_pool desk q named).pools ≡ length desk.pools
after_pool_length desk q None = refl
after_pool_length desk q (Some pool) = length-set desk.pools (pool_of q) (pool_step pool q).0

-- what counts for whether a request is taken
pub same_lengths : (desk after : DeskState) (p : DeskRequest) → length after.board ≡ length desk.board → length after.pools ≡ length desk.pools → (IsDeclared after p ↔ IsDeclared desk p)
same_lengths desk after (Best p) boards pools = (subst (λ (n : ℕ). board.monitor_of p < n) boards, subst (λ (n : ℕ). board.monitor_of p < n) (sym boards))
same_lengths desk after (Pool p) boards pools = (subst (λ (n : ℕ). pool_of p < n) pools, subst (λ (n : ℕ). pool_of p < n) (sym pools))

-- a request changes none of the requests that the desk takes
pub takes_same : (desk : DeskState) (q p : DeskRequest) → IsDeclared desk q → (IsDeclared (desk_after desk q) p ↔ IsDeclared desk p)
takes_same desk (Best q) p h = same_lengths desk (desk_after desk (Best q)) p
    (ap (λ (d : DeskState). length d.board) (board_of_after desk q) ∙ board_laws.length-after desk.board q)
    (ap (λ (d : DeskState). length d.pools) (board_of_after desk q))
takes_same desk (Pool q) p h = same_lengths desk (desk_after desk (Pool q)) p
    (ap length (after_pool_board desk q (slice_get desk.pools (pool_of q))))
    (after_pool_length desk q (slice_get desk.pools (pool_of q)))

value_had : (s : Option Solution) → IsValue (value_reply s)
value_had None = tt
value_had (Some s) = tt

list_had : (room : ℕ) (s : Option Solution) → IsCopy room (list_reply room s)
list_had room None = tt
list_had room (Some s) = cases (nat_lt room (length s.list)) refl
  where
    cases : (long : Bool) → nat_lt room (length s.list) ≡ long → IsCopy room (cond long (reply.Long (length s.list)) (reply.List s.list))
    cases true is = tt
    cases false is = ltb-false room (length s.list) is

pool_step_had : (pool : PoolState) (q : PoolRequest) → PoolCanHave q (pool_step pool q).1
pool_step_had pool (Add p value list) = tt
pool_step_had pool (Size p) = tt
pool_step_had pool (Rank p rank) = value_had (ranked rank pool.solutions)
pool_step_had pool (Take p rank room) = list_had room (ranked rank pool.solutions)

-- the reply is one that the request can have
pub answer_had : (desk : DeskState) (q : DeskRequest) → IsDeclared desk q → CanHave q (desk_answer desk q)
answer_had desk (Best q) h = subst (λ (r : Reply). CanHave (Best q) r) (sym (board_answer_of desk q)) (board_laws.answer_had desk.board q h)
answer_had desk (Pool q) h =
    subst (λ (named : Option PoolState). CanHave (Pool q) (answer_pool desk q named)) (sym (slice_get-get_or desk.pools (pool_of q) (empty_pool 0) h))
    (pool_step_had (slice_index_or desk.pools (pool_of q) (empty_pool 0)) q)
