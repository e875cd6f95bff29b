-- How the end of a call is that of the whole: what is printed by then is a front of what the whole prints.
use Rattle.std.proofs.Common.{◌≡◌, sym, subst, ap, arith, rules, List, [], Result, Ok, Err, ℕ}
use Rattle.std.specs.Prelude.{IsErrAnd, IfOk, IfErr}
use Rattle.comet_meaning.specs.State.{State}
use Rattle.comet_meaning.specs.Outcome.{Outcome, Went, Act, then_do}
use Rattle.comet_meaning.specs.Onward.{IsFront, IsOnward, left_by, GoesOn}
use Rattle.comet_meaning.proofs.GoingOn.{then_on}
use Rattle.comet_meaning.proofs.Endings.{went_then, halted_then, Passes}
use Rattle.run_values.specs.declared.stop.Stop.{Stop}
use Rattle.run_values.specs.declared.stop.Stop.TheVariants.{Fault, Spent, Cyclic, NoMemory, Output}
use Rattle.run_values.specs.Did.{Did, Stopped}
use Rattle.run_steps.specs.Does.{Does, Ends}

front_then : {A B : Type 0} (front : List ℕ) (o : Outcome A) (f : A → Act B) → ((x : A) → GoesOn (f x)) → IsFront front (left_by o).printed → IsFront front (left_by (then_do o f)).printed
front_then front o f k h =
    let on : IsOnward (record { fuel = (left_by o).fuel; printed = front }) (left_by o) = record { fuel = omega arith; printed = h } in
    (then_on (record { fuel = (left_by o).fuel; printed = front }) o f on k).printed

-- what ended a part ended the whole, whatever goes onward behind it
pub ends_passes : (stop : Stop) (s : State) → Passes (λ A o. Ends stop s o)
ends_passes (Fault place f) s A B o g k e = halted_then g e
ends_passes (Spent place) s A B o g k e = halted_then g e
ends_passes (Cyclic place names) s A B o g k e = halted_then g e
ends_passes NoMemory s A B o g k e = front_then s.printed o g k e
ends_passes (Output stop) s A B o g k e = front_then s.printed o g k e

-- an act that prints nothing ended the run
pub act_ends : {A : Type 0} (stop : Stop) (t : State) (o : Outcome A) → Stopped stop t o → IsFront t.printed (left_by o).printed → Ends stop t o
act_ends (Fault place f) t o h k = h
act_ends (Spent place) t o h k = h
act_ends (Cyclic place names) t o h k = h
act_ends NoMemory t o h k = k
act_ends (Output stop) t o h k = k

-- an act that prints nothing did what it does
pub act_does : {X A : Type 0} (view : X → A) (r : Result X Stop) (t : State) (o : Outcome A) → Did view r t o → IsFront t.printed (left_by o).printed → Does view r t o
act_does view (Ok x) t o h k = h
act_does view (Err stop) t o h k = act_ends stop t o h k

-- a value that is made from memory alone
pub gives : {X A : Type 0} (view : X → A) (r : Result X Stop) (s : State) (x : A) → IfOk r (λ y. view y ≡ x) → IfErr r (λ stop. stop ≡ NoMemory) → Does view r s (Went x s)
gives view (Ok y) s x h k = ap (λ z. Went z s) (sym h)
gives view (Err stop) s x h k = subst (λ z. Ends z s (Went x s)) (sym k) ([], search rules)

-- behind a part that gave something
pub after : {X A B : Type 0} (view : X → B) (r : Result X Stop) (t : State) {o : Outcome A} {x : A} {s : State} (f : A → Act B) → o ≡ Went x s → Does view r t (f x s) → Does view r t (then_do o f)
after view r t f e h = subst (Does view r t) (sym (went_then f e)) h

-- the exit of a `?`, whose result is the stop that the call gave
pub exit : {X A : Type 0} (view : X → A) (r : Result X Stop) (s : State) (o : Outcome A) (stop : Stop) → IsErrAnd r (λ y. y ≡ stop) → Ends stop s o → Does view r s o
exit view (Ok x) s o stop h k = absurd h
exit view (Err y) s o stop h k = subst (λ z. Ends z s o) (sym h) k

-- the exit behind a call that may print
pub call_exit : {X A B : Type 0} (view : X → B) (r : Result X Stop) (s : State) (o : Outcome A) (f : A → Act B) (stop : Stop) → IsErrAnd r (λ y. y ≡ stop) → Ends stop s o → ((x : A) → GoesOn (f x)) → Does view r s (then_do o f)
call_exit view r s o f stop h e k = exit view r s (then_do o f) stop h (ends_passes stop s _ _ o f k e)

-- the exit behind an act that prints nothing
pub act_exit : {X A B : Type 0} (view : X → B) (r : Result X Stop) (t : State) (o : Outcome A) (f : A → Act B) (stop : Stop) → IsErrAnd r (λ y. y ≡ stop) → Stopped stop t o → IsFront t.printed (left_by o).printed → ((x : A) → GoesOn (f x)) → Does view r t (then_do o f)
act_exit view r t o f stop h e front next = exit view r t (then_do o f) stop h (ends_passes stop t _ _ o f next (act_ends stop t o e front))

-- the exit where there was no memory
pub memory_exit : {X A : Type 0} (view : X → A) (r : Result X Stop) (s : State) (o : Outcome A) → IsErrAnd r (λ y. y ≡ NoMemory) → IsFront s.printed (left_by o).printed → Does view r s o
memory_exit view r s o h k = exit view r s o NoMemory h k
