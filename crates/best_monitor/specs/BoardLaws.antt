-- The two laws of a board: a request changes no number of monitors, and its reply is one that it can have.
use Rattle.std.specs.Prelude.{◌≡◌, ◌↔◌, ℕ, ◌<◌, Bool, true, false, cond, nat_lt, Option, None, Some, List, [], ◌∷◌, length, slice_get, slice_set, slice_index_or, refl}
use Rattle.std.specs.Option.{option_map, option_map_or}
use Rattle.std.proofs.Common.{sym, subst, ◌∙◌}
use Rattle.std.proofs.lemmas.Bool.{ltb-false}
use Rattle.std.proofs.lemmas.List.{length-set}
use Rattle.std.proofs.lemmas.Option.{slice_get-get_or}
use Rattle.best_monitor.specs.declared.monitor.Best.{Best}
use Rattle.best_monitor.specs.declared.monitor.Monitor.{Monitor}
use Rattle.best_monitor.specs.declared.request.Request.{Request}
use Rattle.best_monitor.specs.declared.request.Request.TheVariants.{Report, Value, Second, Has, Copy, Stop, Stopped}
use Rattle.best_monitor.specs.declared.request.Reply.{Reply}
use Rattle.best_monitor.specs.declared.request.Reply.TheVariants as reply
use Rattle.best_monitor.specs.Board.{monitor_of, fresh_monitor, improves, value_reply, second_reply, copy_reply, monitor_step, board_after, board_answer, IsDeclared}
use Rattle.best_turn.specs.declared.replays.Entry.{Entry}
use Rattle.best_monitor.specs.History.{fold}
use Rattle.best_monitor.specs.Replies.{IsTruth, IsValue, IsCopy, CanHave}

-- a board on which the named monitor was this one, or wasn't declared, after a request
abbrev pub after_from : List Monitor → Request → Option Monitor → List Monitor
after_from board request named = option_map_or (λ (next : List Monitor × Reply). next.0) (option_map (λ monitor. let next = monitor_step monitor request in (slice_set board (monitor_of request) next.0, next.1)) named) board

-- its reply
abbrev pub answer_from : List Monitor → Request → Option Monitor → Reply
answer_from board request named = option_map_or (λ (next : List Monitor × Reply). next.1) (option_map (λ monitor. let next = monitor_step monitor request in (slice_set board (monitor_of request) next.0, next.1)) named) reply.Missing

-- a request leaves as many monitors as there were
pub length-after : (board : List Monitor) (request : Request) → length (board_after board request) ≡ length board
length-after board request = cases (slice_get board (monitor_of request))
  where
    cases : (named : Option Monitor) → length (after_from board request named) ≡ length board
    cases None = refl
    cases (Some monitor) = length-set board (monitor_of request) (monitor_step monitor request).0

-- a history leaves as many monitors as there were
pub length_fold : (board : List Monitor) (entries : List (Entry Request Reply)) → length (fold board entries) ≡ length board
length_fold board [] = refl
length_fold board (e ∷ es) = length_fold (board_after board e.request) es ∙ length-after board e.request

-- a request changes none of the requests that the board takes
pub takes_same : (board : List Monitor) (q p : Request) → IsDeclared board q → (IsDeclared (board_after board q) p ↔ IsDeclared board p)
takes_same board q p h = (subst (λ (n : ℕ). monitor_of p < n) (length-after board q), subst (λ (n : ℕ). monitor_of p < n) (sym (length-after board q)))

truth_had : (improved : Bool) (better same : Monitor × Reply) → IsTruth better.1 → IsTruth same.1 → IsTruth (cond improved better same).1
truth_had true better same a b = a
truth_had false better same a b = b

value_had : (best : Option Best) → IsValue (value_reply best)
value_had None = tt
value_had (Some best) = tt

second_had : (best : Option Best) → IsValue (second_reply best)
second_had None = tt
second_had (Some best) = tt

copy_had : (room : ℕ) (best : Option Best) → IsCopy room (copy_reply room best)
copy_had room None = tt
copy_had room (Some best) = cases (nat_lt room (length best.list)) refl
  where
    cases : (long : Bool) → nat_lt room (length best.list) ≡ long → IsCopy room (cond long (reply.Long (length best.list)) (reply.List best.list))
    cases true is = tt
    cases false is = ltb-false room (length best.list) is

step_had : (monitor : Monitor) (request : Request) → CanHave request (monitor_step monitor request).1
step_had monitor (Report m value second list) = truth_had (improves value second monitor.best) (record { best = Some (record { value = value; second = second; list = list }); stopped = monitor.stopped }, reply.Truth true) (monitor, reply.Truth false) tt tt
step_had monitor (Value m) = value_had monitor.best
step_had monitor (Second m) = second_had monitor.best
step_had monitor (Has m) = tt
step_had monitor (Copy m room) = copy_had room monitor.best
step_had monitor (Stop m) = tt
step_had monitor (Stopped m) = tt

-- the reply is one that the request can have
pub answer_had : (board : List Monitor) (request : Request) → IsDeclared board request → CanHave request (board_answer board request)
answer_had board request h =
    subst (λ (named : Option Monitor). CanHave request (answer_from board request named)) (sym (slice_get-get_or board (monitor_of request) fresh_monitor h))
    (step_had (slice_index_or board (monitor_of request) fresh_monitor) request)
