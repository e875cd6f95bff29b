-- Statements that run later: those that a selector keeps, and those that a variable's changes run.
use Rattle.std.proofs.Common.{◌≡◌, refl, sym, ap, ◌∙◌, subst, ℕ, ℤ, List, Option, Some, None, Result}
use Rattle.std.specs.Prelude.{option_map}
use Rattle.checked_tree.specs.declared.expressions.Slot.{Slot}
use Rattle.checked_tree.specs.declared.statements.EventSlots.{EventSlots}
use Rattle.checked_tree.specs.Shape.{Seen, whole}
use Rattle.checked_tree.specs.Tasks.{Work}
use Rattle.comet_meaning.specs.Cells.{look}
use Rattle.comet_meaning.specs.Events.{attached, closed_over, run_closure, whenever_form}
use Rattle.comet_meaning.specs.Levels.{Flow, Level, Next}
use Rattle.comet_meaning.specs.Moves.{called_move, is_better, kept_in, neighbor_form, run_move, submitted_to}
use Rattle.comet_meaning.specs.Outcome.{Act, Outcome, Went, give, then_do, ◌>>=◌}
use Rattle.comet_meaning.specs.Parts.{number}
use Rattle.comet_meaning.specs.Search.{Closure, KeptMove}
use Rattle.comet_meaning.specs.State.{State, left}
use Rattle.comet_meaning.specs.Values as values
use Rattle.comet_meaning.specs.Values.{Value}
use Rattle.comet_meaning.specs.Onward.{GoesOn, IsFront, left_by}
use Rattle.comet_meaning.proofs.Endings.{then_then, went_then}
use Rattle.comet_meaning.proofs.GoingEvents.{goes_closed_over, goes_run_closure}
use Rattle.comet_meaning.proofs.GoingOn.{goes_at, goes_give, goes_if, goes_look, goes_then, onward_refl}
use Rattle.comet_meaning.proofs.GoingParts.{LevelGoesOn}
use Rattle.run_steps.specs.OfRunState.SearchActs.{submitted, watched}
use Rattle.run_steps.specs.Does.{Does, Ends}
use Rattle.run_steps.proofs.Stops.{ended_then, stopped_then}
use Rattle.run_values.specs.Views.{value_seen}
use Rattle.run_values.specs.declared.values.Value as kept
use Rattle.run_values.specs.declared.values.Value.TheVariants as variants
use Rattle.run_values.specs.Did.{Stopped}
use Rattle.run_values.specs.declared.stop.Stop.{Stop}
use Rattle.run_values.specs.declared.stop.Stop.TheVariants.{NoMemory}

goes_submitted_to : (z : ℤ) (v : Value) (c : Option Closure) → GoesOn (submitted_to z v c)
goes_submitted_to z (values.Selector n) (Some c) = goes_at (λ s. goes_if (is_better z (kept_in s n)) (record { from = λ t. onward_refl (left t) }) goes_give)
goes_submitted_to z v c = goes_give

pub goes_submitted : (z : ℤ) (v : Value) (body : Work) → GoesOn (submitted z v body)
goes_submitted z v body = goes_then (goes_closed_over body) (λ c. goes_submitted_to z v c)

goes_attached_as : (v : Value) (names : Option EventSlots) (c : Option Closure) → GoesOn (attached v names c)
goes_attached_as (values.Variable x) names (Some c) = record { from = λ s. onward_refl (left s) }
goes_attached_as v names c = goes_give

pub goes_watched : (v : Value) (names : Option EventSlots) (body : Work) → GoesOn (watched v names body)
goes_watched v names body = goes_then (goes_closed_over body) (λ c. goes_attached_as v names c)

-- ---- `neighbor`

module _ (l : Level) (e : Seen) (slot : Slot) (body : Work) (s : State) where
  abbrev kept_behind : ℤ → Value → Act Flow
  kept_behind z v = closed_over body >>= λ c. submitted_to z v c >>= λ _. give Next

  abbrev delta_behind : ℤ → Act Flow
  delta_behind z = look slot >>= kept_behind z

  goes_kept : (z : ℤ) (v : Value) → GoesOn (kept_behind z v)
  goes_kept z v = goes_then (goes_closed_over body) (λ c. goes_then (goes_submitted_to z v c) (λ _. goes_give))

  goes_delta : (z : ℤ) → GoesOn (delta_behind z)
  goes_delta z = goes_then (goes_look slot) (λ v. goes_kept z v)

  pub neighbor_ends : (stop : Stop) (t : State) → Ends stop t (number l (whole e) s) → Ends stop t (neighbor_form l e slot body s)
  unfolding neighbor_form
  neighbor_ends stop t h = ended_then stop t _ delta_behind (λ z. goes_delta z) h

  neighbor_looks : {z : ℤ} {t : State} → number l (whole e) s ≡ Went z t → neighbor_form l e slot body s ≡ delta_behind z t
  unfolding neighbor_form
  neighbor_looks h = went_then delta_behind h

  pub neighbor_unseen : (stop : Stop) {z : ℤ} {t : State} → stop ≡ NoMemory → number l (whole e) s ≡ Went z t → Ends stop t (neighbor_form l e slot body s)
  neighbor_unseen stop {z} {t} h k =
      subst (λ y. Ends y t (neighbor_form l e slot body s)) (sym h) (subst (λ (o : Outcome Flow). IsFront t.printed (left_by o).printed) (sym (neighbor_looks k)) ((goes_delta z).from t).printed)

  module _ {z : ℤ} {v : Value} {t u : State} (h : number l (whole e) s ≡ Went z t) (k : look slot t ≡ Went v u) where
    neighbor_is : neighbor_form l e slot body s ≡ then_do (submitted z v body u) (λ _. give Next)
    unfolding neighbor_form
    neighbor_is = went_then delta_behind h ∙ went_then (kept_behind z) k ∙ sym (then_then (closed_over body u) (submitted_to z v) (λ _. give Next))

    pub neighbor_unkept : (stop : Stop) (w : State) → w.printed ≡ u.printed → Stopped stop w (submitted z v body u) → Ends stop w (neighbor_form l e slot body s)
    neighbor_unkept stop w same f = subst (Ends stop w) (sym neighbor_is) (stopped_then stop u w (λ _. give Next) (goes_submitted z v body) same (λ _. goes_give) f)

    pub neighbor_went : {w : State} → submitted z v body u ≡ Went tt w → neighbor_form l e slot body s ≡ Went Next w
    neighbor_went f = neighbor_is ∙ went_then (λ _. give Next) f

-- ---- `call`

-- what a selector keeps runs, and nothing where it keeps none
pub move_none : (l : Level) (m : Option KeptMove) (s : State) → None ≡ option_map (λ (m : KeptMove). m.closure) m → run_move l m s ≡ Went tt s
move_none l None s h = refl
move_none l (Some m) s h = let d : ◌≡◌ {A = Option Closure} None (Some m.closure) = h in cc

move_some : (l : Level) (m : Option KeptMove) (c : Closure) (s : State) → Some c ≡ option_map (λ (m : KeptMove). m.closure) m → run_move l m s ≡ run_closure l c (give tt) s
move_some l None c s h = let d : ◌≡◌ {A = Option Closure} (Some c) None = h in cc
move_some l (Some m) c s h = let d : ◌≡◌ {A = Option Closure} (Some c) (Some m.closure) = h in let same : m.closure ≡ c = cc in ap (λ z. run_closure l z (give tt) s) same

pub move_does : {X : Type 0} (view : X → Unit {0}) (r : Result X Stop) (t : State) (l : Level) (m : Option KeptMove) (c : Closure) (s : State) → Some c ≡ option_map (λ (m : KeptMove). m.closure) m →
    Does view r t (run_closure l c (give tt) s) → Does view r t (run_move l m s)
move_does view r t l m c s h e = subst (Does view r t) (sym (move_some l m c s h)) e

pub goes_run_move : (l : Level) → LevelGoesOn l → (m : Option KeptMove) → GoesOn (run_move l m)
goes_run_move l h None = goes_give
goes_run_move l h (Some m) = goes_run_closure l h m.closure goes_give

-- what is no move is nothing
pub called_none : (l : Level) (v : kept.Value) (s : State) → ((n : ℕ) → v ≡ variants.Move n → ⊥) → called_move l (value_seen v) s ≡ Went tt s
unfolding called_move
called_none l (variants.Move n) s h = absurd (h n refl)
called_none l v s h = refl

pub goes_called : (l : Level) → LevelGoesOn l → (v : Value) → GoesOn (called_move l v)
unfolding called_move
goes_called l h (values.Move n) = goes_at (λ s. goes_run_move l h (kept_in s n))
goes_called l h v = goes_give

-- ---- `whenever`

module _ (l : Level) (x : Seen) (names : Option EventSlots) (body : Work) (s : State) where
  abbrev watched_behind : Value → Act Flow
  watched_behind v = closed_over body >>= λ c. attached v names c >>= λ _. give Next

  pub whenever_ends : (stop : Stop) (t : State) → Ends stop t (l.expr (whole x) s) → Ends stop t (whenever_form l x names body s)
  unfolding whenever_form
  whenever_ends stop t h = ended_then stop t _ watched_behind (λ v. goes_then (goes_closed_over body) (λ c. goes_then (goes_attached_as v names c) (λ _. goes_give))) h

  module _ {v : Value} {t : State} (h : l.expr (whole x) s ≡ Went v t) where
    whenever_is : whenever_form l x names body s ≡ then_do (watched v names body t) (λ _. give Next)
    unfolding whenever_form
    whenever_is = went_then watched_behind h ∙ sym (then_then (closed_over body t) (attached v names) (λ _. give Next))

    pub whenever_stops : (stop : Stop) (w : State) → w.printed ≡ t.printed → Stopped stop w (watched v names body t) → Ends stop w (whenever_form l x names body s)
    whenever_stops stop w same f = subst (Ends stop w) (sym whenever_is) (stopped_then stop t w (λ _. give Next) (goes_watched v names body) same (λ _. goes_give) f)

    pub whenever_went : {w : State} → watched v names body t ≡ Went tt w → whenever_form l x names body s ≡ Went Next w
    whenever_went f = whenever_is ∙ went_then (λ _. give Next) f
