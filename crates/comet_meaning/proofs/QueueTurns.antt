-- The run of a queue is its first event, and then the run of what is left: each handler is a statement, which costs a unit,
-- so the bound on the turns is never met.
use Rattle.std.proofs.Common.{◌≡◌, zero, suc, ℕ, ◌≤◌, List, [], ◌∷◌, Option, Some, None, slice_index_or, arith}
use Rattle.cbl_base.specs.declared.place.Place.{Place}
use Rattle.checked_tree.specs.Tasks as works
use Rattle.checked_tree.specs.Tasks.{Work}
use Rattle.comet_meaning.specs.Values.{Value}
use Rattle.comet_meaning.specs.Search.{Closure, Reaction, Event, no_reaction}
use Rattle.comet_meaning.specs.State.{State, left}
use Rattle.comet_meaning.specs.Outcome.{Outcome, Went, Halted, Act, then_do, ◌>>=◌}
use Rattle.comet_meaning.specs.Cells.{in_scope, in_frame, back_in}
use Rattle.comet_meaning.specs.Levels.{Code, Flow}
use Rattle.comet_meaning.specs.Loops.{end_or, turns, repeated}
use Rattle.comet_meaning.specs.Events.{run_closure, react, first_event, next_event}
use Rattle.comet_meaning.specs.Statements.{meaning_of_statement}
use Rattle.comet_meaning.specs.Program.{level}
use Rattle.comet_meaning.specs.Onward.{IsOnward, left_by, GoesOn}
use Rattle.comet_meaning.proofs.GoingOn.{goes_give, goes_back_in}
use Rattle.comet_meaning.proofs.GoingEvents.{goes_event_names, goes_put_queue}
use Rattle.comet_meaning.proofs.GoingStatements.{goes_level, goes_meaning_of_form}
use Rattle.comet_meaning.proofs.Turns.{IsLess, TakesFuel, IsLessBefore, TurnTakesFuel, takes_charge, repeats_again}

less_then : {A B : Type 0} (s : State) (o : Outcome A) (f : A → Act B) → IsLess s o → ((x : A) → GoesOn (f x)) → IsLess s (then_do o f)
less_then {B = B} s (Went x t) f h k = behind (f x t) ((k x).from t) where
  behind : (o : Outcome B) → IsOnward (left t) (left_by o) → IsLess s o
  behind (Went y u) on = let le : u.fuel ≤ t.fuel = on.fuel in omega arith
  behind (Halted e u) on = tt
less_then s (Halted e t) f h k = tt

less_behind : {A B : Type 0} (s : State) (o : Outcome A) (f : A → Act B) → IsOnward (left s) (left_by o) → ((x : A) → TakesFuel (f x)) → IsLess s (then_do o f)
less_behind {B = B} s (Went x t) f h k = behind (f x t) ((k x).from t) where
  behind : (o : Outcome B) → IsLess t o → IsLess s o
  behind (Went y u) less = let le : t.fuel ≤ s.fuel = h.fuel in omega arith
  behind (Halted e u) less = tt
less_behind s (Halted e t) f h k = tt

-- what takes fuel, and then goes on
pub takes_then : {A B : Type 0} {m : Act A} {f : A → Act B} → TakesFuel m → ((x : A) → GoesOn (f x)) → TakesFuel (m >>= f)
takes_then {m = m} {f = f} h k = record { from = λ s. less_then s (m s) f (h.from s) k }

-- what goes on, and then takes fuel
pub goes_taking : {A B : Type 0} {m : Act A} {f : A → Act B} → GoesOn m → ((x : A) → TakesFuel (f x)) → TakesFuel (m >>= f)
goes_taking {m = m} {f = f} h k = record { from = λ s. less_behind s (m s) f (h.from s) k }

takes_in_scope : {A : Type 0} {m : Act A} → TakesFuel m → TakesFuel (in_scope m)
unfolding in_scope
takes_in_scope {m = m} h = record { from = λ s. less_then s (m s) (back_in s.frame) (h.from s) (λ x. goes_back_in s.frame x) }

in_frame_less : {A : Type 0} (frame : List Value) (s : State) (o : Outcome A) → IsLess (record s { frame = frame }) o → IsLess s o
in_frame_less frame s (Went x t) h = h
in_frame_less frame s (Halted e t) h = tt

takes_in_frame : {A : Type 0} (frame : List Value) {m : Act A} → TakesFuel m → TakesFuel (in_frame frame m)
unfolding in_frame
takes_in_frame frame {m = m} h = record { from = λ s. in_frame_less frame s (m (record s { frame = frame })) (h.from (record s { frame = frame })) }

-- a statement takes fuel, or there is no room for it
pub takes_statement : (c : Code) (room : ℕ) (at : Place) (w : Work) → TakesFuel ((level c room).stmt (works.task at w))
unfolding level meaning_of_statement
takes_statement c zero at w = record { from = λ s. tt }
takes_statement c (suc room) at w = takes_charge at _ (λ _. goes_meaning_of_form (level c room) (goes_level c room) at w)

pub takes_run_closure : (c : Code) (room : ℕ) (x : Closure) {bound : Act (Unit {0})} → GoesOn bound → TakesFuel (run_closure (level c room) x bound)
unfolding run_closure
takes_run_closure c room x k =
    takes_in_scope (takes_in_frame x.frame (goes_taking k (λ _. takes_then (takes_statement c room x.place x.work) (λ flow. goes_give))))

pub takes_react : (c : Code) (room : ℕ) (e : Event) (h : Reaction) → TakesFuel (react (level c room) e h)
takes_react c room e h = takes_run_closure c room h.closure (goes_event_names h.names e)

event_before : (c : Code) (room : ℕ) (es : List Event) (s : State) → IsLessBefore s (first_event (level c room) es s)
event_before c room [] s = tt
event_before c room (e ∷ es) s = before _ ((goes_taking (goes_put_queue es) (λ _. takes_then (takes_react c room e (slice_index_or s.search.reactions e.reaction no_reaction)) (λ _. goes_give {x = None}))).from s) where
  before : (o : Outcome (Option Flow)) → IsLess s o → IsLessBefore s o
  before (Went None t) h = h
  before (Went (Some flow) t) h = tt
  before (Halted e t) h = tt

pub takes_event : (c : Code) (room : ℕ) → TurnTakesFuel (next_event (level c room))
unfolding next_event
takes_event c room = record { from = λ s. event_before c room s.search.queue s }

pub queue_again : (c : Code) (room : ℕ) (at : Place) (s : State) → repeated at (next_event (level c room)) s ≡ then_do (next_event (level c room) s) (end_or (repeated at (next_event (level c room))))
queue_again c room at s = repeats_again at (next_event (level c room)) (takes_event c room) s
