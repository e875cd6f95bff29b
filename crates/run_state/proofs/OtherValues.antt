-- What forms of a search make of a value that isn't of their kind, and of a statement that runs later.
use Rattle.std.proofs.Common.{◌≡◌, ℕ, ℤ, List, [], ◌∷◌, ◌++◌, Bool, true, false, Option, Some, None, Result, Ok, Err, length, map, refl, sym, ap, subst, ◌∙◌, slice_get}
use Rattle.std.specs.Prelude.{if◌then◌else◌, is_some, IfErr, OnOk, option_map}
use Rattle.std.specs.declared.alloc.Global.{Global}
use Rattle.std.specs.declared.boxed.Box.{Box}
use Rattle.std.specs.declared.sync.Arc.{Arc}
use Rattle.std.specs.declared.vec.Vec.{Vec}
use Rattle.cbl_base.specs.declared.ids.VarId.{VarId}
use Rattle.cbl_base.specs.declared.place.Place.{Place}
use Rattle.cbl_base.specs.declared.faults.RunFault.TheVariants.{NoMove}
use Rattle.checked_tree.specs.declared.statements.EventSlots.{EventSlots}
use Rattle.checked_tree.specs.declared.statements.Task.{Task, fold_out-Task}
use Rattle.checked_tree.specs.Tasks as works
use Rattle.checked_tree.specs.Tasks.{Work, act_layer, task_layer, work_of, work_of_act}
use Rattle.comet_meaning.specs.Changes.{changes_of, notice, noticed, queued_events, with_events}
use Rattle.comet_meaning.specs.Draws.{draw}
use Rattle.comet_meaning.specs.Events.{attached, closed_over, with_reaction}
use Rattle.comet_meaning.specs.Moves.{get_move, has_move, is_better, kept_in, put_move, submitted_to}
use Rattle.comet_meaning.specs.Outcome.{Faulted, Halted, Outcome, Went, then_do, ◌>>=◌, give, unless}
use Rattle.comet_meaning.specs.Parts.{solver_at}
use Rattle.comet_meaning.specs.Search.{Closure, Search, Snapshot}
use Rattle.comet_meaning.specs.Solutions.{restore, restore_in, restored, restoring}
use Rattle.comet_meaning.specs.Solvers.{SolverState}
use Rattle.comet_meaning.specs.State.{State, left}
use Rattle.comet_meaning.specs.Values as values
use Rattle.run_state.specs.SearchActs.{submitted, watched}
use Rattle.run_search.specs.Searches.{closure_seen}
use Rattle.run_state.proofs.ReadLaws.{stopped_behind}
use Rattle.run_values.specs.Did.{Did, Stopped}
use Rattle.run_values.specs.Views.{value_seen}
use Rattle.run_values.specs.declared.stop.Stop.{Stop}
use Rattle.run_values.specs.declared.stop.Stop.TheVariants.{NoMemory}
use Rattle.run_values.specs.declared.values.Bounds.{Bounds}
use Rattle.run_values.specs.declared.values.Value.{Value}
use Rattle.run_values.specs.declared.values.Value.TheVariants.{Distribution, Selector, Solution, Variable}

pub nothing_drawn : (at : Place) (x : Value) (s : State) → ((b : Bounds) → x ≡ Distribution b → ⊥) → draw at (value_seen x) s ≡ Went values.Nothing s
unfolding draw
nothing_drawn at (Distribution b) s h = absurd (h b refl)
nothing_drawn at x s h = refl

pub nothing_kept : (x : Value) (s : State) → ((n : ℕ) → x ≡ Selector n → ⊥) → has_move (value_seen x) s ≡ Went values.Nothing s
unfolding has_move
nothing_kept (Selector n) s h = absurd (h n refl)
nothing_kept x s h = refl

pub move_kept : (n : ℕ) (s : State) (b : Bool) → b ≡ is_some (kept_in s n) → has_move (values.Selector n) s ≡ Went (values.Truth b) s
unfolding has_move
move_kept n s b e = ap (λ (a : Bool). Went (values.Truth a) s) (sym e)

pub move_got : (at : Place) (n : ℕ) (s : State) → true ≡ is_some (kept_in s n) → get_move at (values.Selector n) s ≡ Went (values.Move n) s
unfolding get_move
move_got at n s e = ap (λ (b : Bool). (unless b at NoMove >>= λ _. give (values.Move n)) s) (sym e)

pub no_move : (at : Place) (n : ℕ) (s : State) → false ≡ is_some (kept_in s n) → get_move at (values.Selector n) s ≡ Halted (Faulted at NoMove) (left s)
unfolding get_move
no_move at n s e = ap (λ (b : Bool). (unless b at NoMove >>= λ _. give (values.Move n)) s) (sym e)

-- what is seen is there
pub seen_there : {X A : Type 0} (f : X → A) (o : Option X) (p : Option A) → option_map f o ≡ p → is_some o ≡ is_some p
seen_there f None p e = ap is_some e
seen_there f (Some x) p e = ap is_some e

pub nothing_got : (at : Place) (x : Value) (s : State) → ((n : ℕ) → x ≡ Selector n → ⊥) → get_move at (value_seen x) s ≡ Went values.Nothing s
unfolding get_move
nothing_got at (Selector n) s h = absurd (h n refl)
nothing_got at x s h = refl

pub nothing_restored : (at : Place) (x : Value) (s : State) → ((n : ℕ) → x ≡ Solution n → ⊥) → restore at (value_seen x) s ≡ Went values.Nothing s
unfolding restore
nothing_restored at (Solution n) s h = absurd (h n refl)
nothing_restored at x s h = refl

-- ---- a statement that runs later

work_of_task : (t : Task) → work_of t ≡ works.task t.place (work_of_act t.act)
unfolding work_of work_of_act
work_of_task t = fold_out-Task Work Work act_layer task_layer t

abbrev closed_in : Task → State → Closure
closed_in t s = record { place = t.place; work = work_of_act t.act; frame = s.frame }

pub closed_as : (t : Task) (s : State) → closed_over (work_of t) s ≡ Went (Some (closed_in t s)) s
unfolding closed_over
closed_as t s = ap (λ w. closed_over w s) (work_of_task t)

pub closed_copy : (t : Task) (s : State) (body : Arc (Box Task Global) Global) (frame : Vec Value Global) → body.value.value ≡ t → map value_seen frame.items ≡ s.frame →
    closed_over (work_of t) s ≡ Went (Some (closure_seen (record { body = body; frame = frame }))) s
closed_copy t s body frame e f =
    closed_as t s
    ∙ ap (λ (u : Task). Went (Some (closed_in u s)) s) (sym e)
    ∙ ap (λ (vs : List values.Value). Went (Some (record { place = body.value.value.place; work = work_of_act body.value.value.act; frame = vs })) s) (sym f)

pub submitted_as : (z : ℤ) (n : ℕ) (t : Task) (s : State) (b : Bool) → b ≡ is_better z (kept_in s n) →
    submitted z (values.Selector n) (work_of t) s ≡ (if b then put_move n (record { delta = z; closure = closed_in t s }) else give tt) s
submitted_as z n t s b e =
    ap (λ (o : Outcome (Option Closure)). then_do o (submitted_to z (values.Selector n))) (closed_as t s)
    ∙ ap (λ c. (if c then put_move n (record { delta = z; closure = closed_in t s }) else give tt) s) (sym e)

pub nothing_given : (z : ℤ) (x : Value) (t : Task) (s : State) → ((n : ℕ) → x ≡ Selector n → ⊥) → submitted z (value_seen x) (work_of t) s ≡ Went tt s
nothing_given z x t s h = ap (λ (o : Outcome (Option Closure)). then_do o (submitted_to z (value_seen x))) (closed_as t s) ∙ by x h
  where
    by : (x : Value) → ((n : ℕ) → x ≡ Selector n → ⊥) → submitted_to z (value_seen x) (Some (closed_in t s)) s ≡ Went tt s
    by (Selector n) h = absurd (h n refl)
    by x h = refl

pub watched_as : (x : VarId) (names : Option EventSlots) (t : Task) (s : State) →
    watched (values.Variable x) names (work_of t) s ≡ Went tt (record s { search = with_reaction x (record { names = names; closure = closed_in t s }) s.search })
watched_as x names t s = ap (λ (o : Outcome (Option Closure)). then_do o (attached (values.Variable x) names)) (closed_as t s)

pub nothing_watched : (x : Value) (names : Option EventSlots) (t : Task) (s : State) → ((v : VarId) → x ≡ Variable v → ⊥) → watched (value_seen x) names (work_of t) s ≡ Went tt s
nothing_watched x names t s h = ap (λ (o : Outcome (Option Closure)). then_do o (attached (value_seen x) names)) (closed_as t s) ∙ by x h
  where
    by : (x : Value) → ((v : VarId) → x ≡ Variable v → ⊥) → attached (value_seen x) names (Some (closed_in t s)) s ≡ Went tt s
    by (Variable v) h = absurd (h v refl)
    by x h = refl

pub closed_is : (t : Task) (s : State) (c : Closure) → closed_over (work_of t) s ≡ Went (Some c) s → closed_in t s ≡ c
closed_is t s c e = let d : ◌≡◌ {A = Outcome (Option Closure)} (Went (Some (closed_in t s)) s) (Went (Some c) s) = sym (closed_as t s) ∙ e in cc

-- ---- a change of what is kept, for which memory may run out

pub kept_so : {X : Type 0} (r : Result X Stop) (s : State) (x y : Search) (o : Outcome (Unit {0})) → o ≡ Went tt (record s { search = y }) → OnOk r (x ≡ y) → IfErr r (λ stop. stop ≡ NoMemory) → Did (λ _. tt) r (record s { search = x }) o
kept_so (Ok v) s x y o e h k = e ∙ ap (λ (z : Search). Went tt (record s { search = z })) (sym h)
kept_so (Err stop) s x y o e h k = subst (λ z. Stopped z (record s { search = x }) o) (sym k) tt

-- ---- a solution is restored

-- what isn't there isn't seen
pub nothing_there : {X A : Type 0} (f : X → A) (o : Option X) (p : Option A) → ((x : X) → o ≡ Some x → ⊥) → option_map f o ≡ p → p ≡ None
nothing_there f None p h e = sym e
nothing_there f (Some x) p h e = absurd (h x refl)

pub no_solution : (at : Place) (n : ℕ) (s : State) → slice_get s.search.solutions n ≡ None → restore at (values.Solution n) s ≡ Went values.Nothing s
unfolding restore
no_solution at n s e = ap (λ o. restored at o s) e

module _ (at : Place) (n : ℕ) (s : State) (x : Snapshot) (there : slice_get s.search.solutions n ≡ Some x) where
  abbrev restoring_here : Outcome (Unit {0})
  restoring_here = restoring at x.solver x.values (solver_at s x.solver) s

  -- what is left to do behind the solver's change
  abbrev behind : Outcome (Unit {0}) → Outcome values.Value
  behind o = then_do (then_do o (λ _. notice x.solver (solver_at s x.solver))) (λ _. give values.Nothing)

  restore_is : restore at (values.Solution n) s ≡ behind restoring_here
  unfolding restore noticed restore_in
  restore_is = ap (λ o. restored at o s) there

  pub restored_went : (u : State) (y : Search) → restoring_here ≡ Went tt u →
      y ≡ with_events (queued_events x.solver u.search.handlers (changes_of (solver_at s x.solver) (solver_at u x.solver))) u.search →
      restore at (values.Solution n) s ≡ Went values.Nothing (record u { search = y })
  unfolding notice
  restored_went u y e is = restore_is ∙ ap behind e ∙ ap (λ (z : Search). Went values.Nothing (record u { search = z })) (sym is)

  pub restored_stops : (stop : Stop) (t : State) → Stopped stop t restoring_here → Stopped stop t (restore at (values.Solution n) s)
  restored_stops stop t e =
      subst (Stopped stop t) (sym restore_is) (stopped_behind stop t _ (λ _. give values.Nothing) (stopped_behind stop t restoring_here (λ _. notice x.solver (solver_at s x.solver)) e))
