-- Events go onward: what a commit queues, and the run of the queue.
use Rattle.std.proofs.Common.{ℕ, zero, suc, Bool, true, false, List, [], ◌∷◌, Option, Some, None, slice_index_or}
use Rattle.cbl_base.specs.declared.place.Place.{Place}
use Rattle.checked_tree.specs.declared.statements.EventSlots.{EventSlots}
use Rattle.checked_tree.specs.Shape.{Seen, whole}
use Rattle.checked_tree.specs.Tasks as works
use Rattle.checked_tree.specs.Tasks.{Work}
use Rattle.comet_meaning.specs.Values as values
use Rattle.comet_meaning.specs.Values.{Value}
use Rattle.comet_meaning.specs.Solvers.{SolverState}
use Rattle.comet_meaning.specs.Search.{Closure, Reaction, Event, no_reaction}
use Rattle.comet_meaning.specs.State.{left}
use Rattle.comet_meaning.specs.Outcome.{Act}
use Rattle.comet_meaning.specs.Levels.{Level, Flow, Target, Moved}
use Rattle.comet_meaning.specs.Loops.{end_or, turns, repeated}
use Rattle.comet_meaning.specs.Parts.{solver_at}
use Rattle.comet_meaning.specs.Changes.{notice, noticed}
use Rattle.comet_meaning.specs.Events.{closed_over, run_closure, attached, whenever_form, put_queue, put_running, event_names, react, first_event, next_event, run_all, run_queue, behind_commit}
use Rattle.comet_meaning.specs.Onward.{GoesOn}
use Rattle.comet_meaning.proofs.GoingOn.{onward_refl, goes_then, goes_give, goes_if, goes_at, goes_put, goes_in_scope, goes_in_frame}
use Rattle.comet_meaning.proofs.GoingParts.{LevelGoesOn}

-- turns

pub goes_end_or : {next : Act Flow} → GoesOn next → (end : Option Flow) → GoesOn (end_or next end)
goes_end_or k None = k
goes_end_or k (Some flow) = goes_give

pub goes_turns : (at : Place) {turn : Act (Option Flow)} → GoesOn turn → (n : ℕ) → GoesOn (turns at turn n)
unfolding turns
goes_turns at k zero = record { from = λ s. onward_refl (left s) }
goes_turns at k (suc n) = goes_then k (λ end. goes_end_or (goes_turns at k n) end)

pub goes_repeated : (at : Place) {turn : Act (Option Flow)} → GoesOn turn → GoesOn (repeated at turn)
unfolding repeated
goes_repeated at k = goes_at (λ s. goes_turns at k (suc s.fuel))

-- what a commit queues

pub goes_notice : (k : ℕ) (m : SolverState) → GoesOn (notice k m)
unfolding notice
goes_notice k m = record { from = λ s. onward_refl (left s) }

pub goes_noticed : (k : ℕ) {act : Act (Unit {0})} → GoesOn act → GoesOn (noticed k act)
unfolding noticed
goes_noticed k h = goes_at (λ s. goes_then h (λ _. goes_notice k (solver_at s k)))

-- statements that run later

pub goes_closed_over : (w : Work) → GoesOn (closed_over w)
unfolding closed_over
goes_closed_over (works.task at w) = record { from = λ s. onward_refl (left s) }
goes_closed_over w = goes_give

pub goes_run_closure : (l : Level) → LevelGoesOn l → (c : Closure) {bound : Act (Unit {0})} → GoesOn bound → GoesOn (run_closure l c bound)
unfolding run_closure
goes_run_closure l h c k = goes_in_scope (goes_in_frame c.frame (goes_then k (λ _. goes_then (h.stmt (works.task c.place c.work)) (λ flow. goes_give))))

goes_attached : (v : Value) (names : Option EventSlots) (c : Option Closure) → GoesOn (attached v names c)
goes_attached (values.Variable x) names (Some c) = record { from = λ s. onward_refl (left s) }
goes_attached v names c = goes_give

pub goes_whenever : (l : Level) → LevelGoesOn l → (x : Seen) (names : Option EventSlots) (body : Work) → GoesOn (whenever_form l x names body)
unfolding whenever_form
goes_whenever l h x names body =
    goes_then (h.expr (whole x)) (λ v. goes_then (goes_closed_over body) (λ c. goes_then (goes_attached v names c) (λ _. goes_give)))

-- the queue

pub goes_put_queue : (es : List Event) → GoesOn (put_queue es)
unfolding put_queue
goes_put_queue es = record { from = λ s. onward_refl (left s) }

pub goes_put_running : (b : Bool) → GoesOn (put_running b)
unfolding put_running
goes_put_running b = record { from = λ s. onward_refl (left s) }

pub goes_event_names : (names : Option EventSlots) (e : Event) → GoesOn (event_names names e)
goes_event_names None e = goes_give
goes_event_names (Some names) e = goes_then (goes_put names.old _) (λ _. goes_put names.new _)

pub goes_react : (l : Level) → LevelGoesOn l → (e : Event) (x : Reaction) → GoesOn (react l e x)
goes_react l h e x = goes_run_closure l h x.closure (goes_event_names x.names e)

pub goes_first_event : (l : Level) → LevelGoesOn l → (es : List Event) → GoesOn (first_event l es)
goes_first_event l h [] = goes_give
goes_first_event l h (e ∷ es) =
    goes_at (λ s. goes_then (goes_put_queue es) (λ _. goes_then (goes_react l h e (slice_index_or s.search.reactions e.reaction no_reaction)) (λ _. goes_give {x = None})))

pub goes_next_event : (l : Level) → LevelGoesOn l → GoesOn (next_event l)
unfolding next_event
goes_next_event l h = goes_at (λ s. goes_first_event l h s.search.queue)

pub goes_run_all : (l : Level) → LevelGoesOn l → (at : Place) → GoesOn (run_all l at)
unfolding run_all
goes_run_all l h at = goes_then (goes_put_running true) (λ _. goes_then (goes_repeated at (goes_next_event l h)) (λ _. goes_put_running false))

pub goes_run_queue : (l : Level) → LevelGoesOn l → (at : Place) → GoesOn (run_queue l at)
unfolding run_queue
goes_run_queue l h at = goes_at (λ s. goes_if s.search.running goes_give (goes_run_all l h at))

pub goes_behind_commit : (l : Level) → LevelGoesOn l → (at : Place) (t : Target) → GoesOn (behind_commit l at t)
goes_behind_commit l h at (Moved x) = goes_run_queue l h at
goes_behind_commit l h at t = goes_give
