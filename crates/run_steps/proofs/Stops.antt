-- Where a part ends the run, the whole ends it so.
use Rattle.std.proofs.Common.{◌≡◌, sym, ap, ◌∙◌, ℕ, List, ◌++◌, append_assoc, Result, Ok, Err}
use Rattle.comet_meaning.specs.State.{State}
use Rattle.comet_meaning.specs.Outcome.{Outcome, Went, Halted, Act, then_do}
use Rattle.comet_meaning.specs.Onward.{IsFront, left_by, GoesOn}
use Rattle.run_values.specs.declared.stop.Stop.{Stop}
use Rattle.run_values.specs.declared.stop.Stop.TheVariants.{Fault, Spent, Cyclic, NoMemory, Output}
use Rattle.run_values.specs.Did.{Did, Stopped}
use Rattle.run_steps.specs.Does.{Does, Ends}

front_then : {A B : Type 0} (printed : List ℕ) (o : Outcome A) (f : A → Act B) → ((x : A) → GoesOn (f x)) → IsFront printed (left_by o).printed → IsFront printed (left_by (then_do o f)).printed
front_then printed (Went x t) f k e =
    let on = ((k x).from t).printed in
    (e.0 ++ on.0, on.1 ∙ (ap (λ u. u ++ on.0) e.1 ∙ append_assoc printed e.0 on.0))
front_then printed (Halted h t) f k e = e

-- a part that prints
pub ended_then : {A B : Type 0} (stop : Stop) (s : State) (o : Outcome A) (f : A → Act B) → ((x : A) → GoesOn (f x)) → Ends stop s o → Ends stop s (then_do o f)
ended_then (Fault place x) s o f k e = ap (λ o. then_do o f) e
ended_then (Spent place) s o f k e = ap (λ o. then_do o f) e
ended_then (Cyclic place names) s o f k e = ap (λ o. then_do o f) e
ended_then NoMemory s o f k e = front_then s.printed o f k e
ended_then (Output x) s o f k e = front_then s.printed o f k e

pub stays : {A : Type 0} (s t : State) {m : Act A} → GoesOn m → t.printed ≡ s.printed → IsFront t.printed (left_by (m s)).printed
stays s t g same = let on = (g.from s).printed in (on.0, on.1 ∙ ap (λ u. u ++ on.0) (sym same))

-- an act that doesn't print
pub stopped : {A : Type 0} (stop : Stop) (s t : State) {m : Act A} → GoesOn m → t.printed ≡ s.printed → Stopped stop t (m s) → Ends stop t (m s)
stopped (Fault place x) s t g same e = e
stopped (Spent place) s t g same e = e
stopped (Cyclic place names) s t g same e = e
stopped NoMemory s t g same e = stays s t g same
stopped (Output x) s t g same e = stays s t g same

pub stopped_then : {A B : Type 0} (stop : Stop) (s t : State) {m : Act A} (f : A → Act B) → GoesOn m → t.printed ≡ s.printed → ((x : A) → GoesOn (f x)) → Stopped stop t (m s) → Ends stop t (then_do (m s) f)
stopped_then stop s t {m} f g same k e = ended_then stop t (m s) f k (stopped stop s t g same e)

-- what an act does that doesn't print
pub does : {X A : Type 0} (view : X → A) (r : Result X Stop) (s t : State) {m : Act A} → GoesOn m → t.printed ≡ s.printed → Did view r t (m s) → Does view r t (m s)
does view (Ok x) s t g same e = e
does view (Err stop) s t g same e = stopped stop s t g same e

-- where there is no memory, what was printed is a front of what a part prints
pub unprinted : {A : Type 0} (s : State) {m : Act A} → GoesOn m → IsFront s.printed (left_by (m s)).printed
unprinted s g = (g.from s).printed
