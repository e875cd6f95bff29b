-- Statements that run later, and the queue, step by step.
use Rattle.std.proofs.Common.{◌≡◌, refl, sym, ap, ◌∙◌, subst, true, false, List, [], ◌∷◌, Option, Some, None, drop, slice_get}
use Rattle.std.specs.Prelude.{slice_index_or, if◌then◌else◌}
use Rattle.cbl_base.specs.declared.place.Place.{Place}
use Rattle.checked_tree.specs.Tasks as works
use Rattle.checked_tree.specs.Tasks.{Work}
use Rattle.comet_meaning.specs.State.{State}
use Rattle.comet_meaning.specs.Outcome.{Outcome, Went, Act, then_do, ◌>>=◌, give}
use Rattle.comet_meaning.specs.Cells.{back_in, in_scope, in_frame}
use Rattle.comet_meaning.specs.Levels.{Level, Flow}
use Rattle.comet_meaning.specs.Onward.{GoesOn}
use Rattle.comet_meaning.specs.Loops.{repeated}
use Rattle.comet_meaning.specs.Search.{Closure, Event, Search, no_reaction}
use Rattle.comet_meaning.specs.Events.{run_closure, react, put_queue, put_running, with_queue, first_event, next_event, run_all, run_queue, while_running}
use Rattle.comet_meaning.proofs.GoingOn.{goes_then, goes_give, goes_back_in, goes_put}
use Rattle.comet_meaning.proofs.GoingParts.{LevelGoesOn}
use Rattle.comet_meaning.proofs.GoingEvents.{goes_put_running}
use Rattle.event_forms.specs.Bindings.{bound_by}
use Rattle.event_forms.specs.declared.closures.Binding.{Binding}
use Rattle.run_steps.specs.Does.{Ends}
use Rattle.run_steps.proofs.Exits.{ends_passes}
use Rattle.run_values.specs.declared.stop.Stop.{Stop}

-- ---- a statement that runs later

pub goes_bound : (b : Option Binding) → GoesOn (bound_by b)
goes_bound None = goes_give
goes_bound (Some b) = goes_then (goes_put b.names.old _) (λ _. goes_put b.names.new _)

module _ (l : Level) (h : LevelGoesOn l) (c : Closure) (bound : Act (Unit {0})) (s : State) where
  abbrev begun : Outcome (Unit {0})
  begun = bound (record s { frame = c.frame })

  abbrev body : Act Flow
  body = l.stmt (works.task c.place c.work)

  abbrev ran : Act (Unit {0})
  ran = body >>= λ flow. give tt

  goes_ran : GoesOn ran
  goes_ran = goes_then (h.stmt (works.task c.place c.work)) (λ flow. goes_give)

  pub closure_went : {t u : State} {flow : Flow} → begun ≡ Went tt t → body t ≡ Went flow u → run_closure l c bound s ≡ Went tt (record u { frame = s.frame })
  unfolding run_closure in_scope in_frame
  closure_went e f =
      ap (λ (o : Outcome (Unit {0})). then_do (then_do o (λ _. ran)) (back_in s.frame)) e
      ∙ ap (λ (o : Outcome Flow). then_do (then_do o (λ flow. give tt)) (back_in s.frame)) f

  pub closure_unbound : (stop : Stop) (t : State) → Ends stop t begun → Ends stop t (run_closure l c bound s)
  unfolding run_closure in_scope in_frame
  closure_unbound stop t e =
      ends_passes stop t _ _ _ (back_in s.frame) (λ v. goes_back_in s.frame v) (ends_passes stop t _ _ begun (λ _. ran) (λ _. goes_ran) e)

  pub closure_ends : (stop : Stop) (t : State) {u : State} → begun ≡ Went tt u → Ends stop t (body u) → Ends stop t (run_closure l c bound s)
  unfolding run_closure in_scope in_frame
  closure_ends stop t e f =
      subst (λ (o : Outcome (Unit {0})). Ends stop t (then_do (then_do o (λ _. ran)) (back_in s.frame))) (sym e)
      (ends_passes stop t _ _ _ (back_in s.frame) (λ v. goes_back_in s.frame v) (ends_passes stop t _ _ _ (λ flow. give tt) (λ flow. goes_give) f))

-- ---- the events of a queue

-- the next one: there is none, or it is taken off and runs
pub no_event : (l : Level) (s : State) (x : Search) → None ≡ slice_get s.search.queue 0 → x ≡ with_queue (drop 1 s.search.queue) s.search → next_event l s ≡ Went (Some Flow.Next) (record s { search = x })
unfolding next_event
no_event l s x e is = by s.search.queue refl e is
  where
    by : (es : List Event) → s.search.queue ≡ es → None ≡ slice_get es 0 → x ≡ with_queue (drop 1 es) s.search → first_event l es s ≡ Went (Some Flow.Next) (record s { search = x })
    by [] q e is = ap (λ (y : Search). Went (Some Flow.Next) (record s { search = y })) (sym (is ∙ ap (λ es. with_queue es s.search) (sym q)))
    by (y ∷ es) q e is = let d : ◌≡◌ {A = Option Event} None (Some y) = e in cc

pub one_event : (l : Level) (s : State) (x : Search) (e : Event) → Some e ≡ slice_get s.search.queue 0 → x ≡ with_queue (drop 1 s.search.queue) s.search →
    next_event l s ≡ then_do (react l e (slice_index_or x.reactions e.reaction no_reaction) (record s { search = x })) (λ _. give None)
unfolding next_event put_queue
one_event l s x e first is = by s.search.queue first ∙ ap (λ (y : Search). then_do (react l e (slice_index_or y.reactions e.reaction no_reaction) (record s { search = y })) (λ _. give None)) (sym is)
  where
    by : (es : List Event) → Some e ≡ slice_get es 0 →
        first_event l es s ≡ then_do (react l e (slice_index_or s.search.reactions e.reaction no_reaction) (record s { search = with_queue (drop 1 es) s.search })) (λ _. give None)
    by [] h = let d : ◌≡◌ {A = Option Event} (Some e) None = h in cc
    by (y ∷ es) h =
        let d : ◌≡◌ {A = Option Event} (Some e) (Some y) = h in
        let same : e ≡ y = cc in
        ap (λ z. then_do (react l z (slice_index_or s.search.reactions z.reaction no_reaction) (record s { search = with_queue es s.search })) (λ _. give None)) (sym same)

-- what it names ran, or ended the run
pub event_went : (l : Level) (s t : State) (x : Search) (e : Event) → Some e ≡ slice_get s.search.queue 0 → x ≡ with_queue (drop 1 s.search.queue) s.search →
    react l e (slice_index_or x.reactions e.reaction no_reaction) (record s { search = x }) ≡ Went tt t → next_event l s ≡ Went None t
event_went l s t x e first is went = one_event l s x e first is ∙ ap (λ (o : Outcome (Unit {0})). then_do o (λ _. give None)) went

pub event_ends : (l : Level) (s t : State) (x : Search) (e : Event) (stop : Stop) → Some e ≡ slice_get s.search.queue 0 → x ≡ with_queue (drop 1 s.search.queue) s.search →
    Ends stop t (react l e (slice_index_or x.reactions e.reaction no_reaction) (record s { search = x })) → Ends stop t (next_event l s)
event_ends l s t x e stop first is ended = subst (Ends stop t) (sym (one_event l s x e first is)) (ends_passes stop t _ _ _ (λ _. give None) (λ _. goes_give) ended)

-- what ends the run of the queue
pub all_run : (l : Level) (at : Place) (s t : State) {flow : Flow} → repeated at (next_event l) (record s { search = while_running true s.search }) ≡ Went flow t →
    run_all l at s ≡ Went tt (record t { search = while_running false t.search })
unfolding run_all put_running
all_run l at s t e = ap (λ (o : Outcome Flow). then_do o (λ flow. put_running false)) e

pub all_stops : (l : Level) (at : Place) (s t : State) (stop : Stop) → Ends stop t (repeated at (next_event l) (record s { search = while_running true s.search })) → Ends stop t (run_all l at s)
unfolding run_all put_running
all_stops l at s t stop e = ends_passes stop t _ _ _ (λ flow. put_running false) (λ flow. goes_put_running false) e

pub queue_idle : (l : Level) (at : Place) (s : State) → s.search.running ≡ true → run_queue l at s ≡ Went tt s
unfolding run_queue
queue_idle l at s e = ap (λ b. (if b then give tt else run_all l at) s) e

pub queue_runs : (l : Level) (at : Place) (s : State) → s.search.running ≡ false → run_queue l at s ≡ run_all l at s
unfolding run_queue
queue_runs l at s e = ap (λ b. (if b then give tt else run_all l at) s) e
