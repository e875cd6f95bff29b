-- One layer of what is executed.
use Rattle.std.proofs.Common.{Bor, option_map, ◌≡◌, refl, sym, subst, ap, ◌∙◌, ℕ, zero, suc, ◌-◌, ◌<◌, List, ◌++◌, length, get_or, Option, Some, None, Result, Ok, Err, if◌then◌else◌, sub-one, arith}
use Rattle.cbl_base.specs.declared.place.Place.{Place}
use Rattle.cbl_base.specs.declared.faults.RunFault.TheVariants.{Depth}
use Rattle.checked_tree.specs.declared.expressions.Slot.{Slot}
use Rattle.checked_tree.specs.declared.kind.Kind.{Kind}
use Rattle.checked_tree.specs.declared.kind.Kind.TheVariants as kinds
use Rattle.checked_tree.specs.declared.statements.Task.{Task}
use Rattle.std.specs.Option.{option_copied}
use Rattle.checked_tree.specs.declared.expressions.Typed.{Typed}
use Rattle.checked_tree.specs.Shape.{Seen, optional, seen, whole}
use Rattle.checked_tree.specs.Actions as deeds
use Rattle.checked_tree.specs.Actions.{Deed, Shown, Sized}
use Rattle.checked_tree.specs.Tasks.{Work, work_of, work_of_act}
use Rattle.comet_meaning.specs.Values.{Value, as_kind}
use Rattle.comet_meaning.specs.State.{State, left}
use Rattle.comet_meaning.specs.Outcome.{Outcome, Went, Halted, Faulted, Act, then_do, ◌>>=◌, give, charge}
use Rattle.comet_meaning.specs.Cells.{put}
use Rattle.comet_meaning.specs.Levels.{Code, Level, Flow}
use Rattle.comet_meaning.specs.Parts.{bounds, value}
use Rattle.comet_meaning.specs.Program.{level}
use Rattle.comet_meaning.specs.Declarations.{Dimension, scalar_form, copied_form}
use Rattle.comet_meaning.specs.Loops.{end_or, repeated}
use Rattle.comet_meaning.specs.Statements.{work_place, meaning_of_statement, meaning_of_form, action_form, deed_form, return_form}
use Rattle.comet_meaning.specs.Onward.{GoesOn, IsFront, left_by}
use Rattle.comet_meaning.specs.Printing.{print, shown_form}
use Rattle.comet_meaning.proofs.GoingOn.{goes_charge, goes_give, goes_new_array, goes_put, goes_then, goes_unless}
use Rattle.comet_meaning.proofs.GoingParts.{LevelGoesOn, goes_read_array}
use Rattle.comet_meaning.proofs.GoingEvents.{goes_repeated, goes_end_or}
use Rattle.comet_meaning.proofs.Rows.{DimensionsLeft, PrintsLeft, TasksLeft, dimensions_err, prints_err, tasks_err}
use Rattle.comet_meaning.proofs.Turns.{TurnTakesFuel, IsLessBefore, repeats_again}
use Rattle.run_objects.specs.OfRunState.Acts.{copied_into, listed}
use Rattle.run_values.specs.Did.{Did}
use Rattle.run_values.specs.declared.stop.Stop.{Stop}
use Rattle.run_values.specs.declared.stop.Stop.TheVariants.{Fault, Spent, Cyclic, NoMemory, Output}
use Rattle.run_steps.specs.Copies.{is_array}
use Rattle.run_steps.specs.Does.{Does, Ends}
use Rattle.run_steps.specs.Returns.{returned_by}
use Rattle.run_steps.specs.Views.{part}
use Rattle.run_steps.proofs.Stops.{ended_then}
use Rattle.run_steps.proofs.Trees.{work_of_task}

-- statements

pub stmt_at_zero : (c : Code) (room : ℕ) (t : Task) (s : State) → room ≡ 0 → (level c room).stmt (work_of t) s ≡ Halted (Faulted t.place Depth) (left s)
unfolding level
stmt_at_zero c zero t s h = ap (λ w. Halted (Faulted (work_place w) Depth) (left s)) (work_of_task t)
stmt_at_zero c (suc d) t s h = absurd (omega arith)

pub stmt_as : (c : Code) (room : ℕ) (t : Task) (s : State) → (room ≡ 0 → ⊥) → (level c room).stmt (work_of t) s ≡ then_do (charge 1 t.place s) (λ _. meaning_of_form (level c (room - 1)) t.place (work_of_act t.act))
unfolding level meaning_of_statement
stmt_as c zero t s h = absurd (h refl)
stmt_as c (suc d) t s h = rw sub-one (ap (λ w. meaning_of_statement (level c d) w s) (work_of_task t))

-- actions

pub action_returns : (l : Level) (at : Place) (d : Deed) (e : Option Seen) → returned_by d ≡ Some e → action_form l at d ≡ return_form l e
unfolding action_form
action_returns l at (deeds.returning x) e h = ap (λ o. returning_or o) h where
  returning_or : Option (Option Seen) → Act Flow
  returning_or None = return_form l x
  returning_or (Some y) = return_form l y
action_returns l at d e h = absurd cc

pub action_goes_on : (l : Level) (at : Place) (d : Deed) → returned_by d ≡ None → action_form l at d ≡ (deed_form l at d >>= λ _. give Flow.Next)
unfolding action_form
action_goes_on l at (deeds.returning x) h = absurd cc
action_goes_on l at d h = refl

-- loops

-- the turns that are left, from here, are the whole loop
pub record TurnsLeft (at : Place) (turn : Act (Option Flow)) (s : State) (w : Outcome Flow) : Type 0 where
  pub left : repeated at turn s ≡ w

module _ {at : Place} {turn : Act (Option Flow)} {s : State} {w : Outcome Flow} (m : TurnsLeft at turn s w) (k : TurnTakesFuel turn) where
  turn_at : then_do (turn s) (end_or (repeated at turn)) ≡ w
  turn_at = sym (repeats_again at turn k s) ∙ m.left

  pub turn_ends : (flow : Flow) (t : State) → turn s ≡ Went (Some flow) t → w ≡ Went flow t
  turn_ends flow t e = sym turn_at ∙ ap (λ o. then_do o (end_or (repeated at turn))) e

  pub turn_goes_on : (t : State) → turn s ≡ Went None t → TurnsLeft at turn t w
  turn_goes_on t e = record { left = sym (ap (λ o. then_do o (end_or (repeated at turn))) e) ∙ turn_at }

  pub turn_stops : GoesOn turn → (stop : Stop) (t : State) → Ends stop t (turn s) → Ends stop t w
  turn_stops g stop t e = subst (Ends stop t) turn_at (ended_then stop t (turn s) (end_or (repeated at turn)) (λ end. goes_end_or (goes_repeated at g) end) e)

  pub turn_spends : (t : State) → turn s ≡ Went None t → t.fuel < s.fuel
  turn_spends t e = subst (IsLessBefore s) e (k.from s)

-- names of one value

pub scalar_as : (l : Level) (at : Place) (slot : Slot) (k : Kind) (e : Seen) (s : State) → scalar_form l at slot k (Some e) s ≡ then_do (value l (whole e) s) (λ v. if is_array k then copied_into at e.place slot v else put slot (as_kind k v))
unfolding scalar_form copied_form
scalar_as l at slot kinds.Array e s = refl
scalar_as l at slot k e s = refl

pub goes_copied_into : (at place : Place) (slot : Slot) (v : Value) → GoesOn (copied_into at place slot v)
goes_copied_into at place slot v = goes_then (goes_read_array place v) (λ c. goes_then (goes_charge _ at) (λ _. goes_then (goes_new_array _) (λ a. goes_put slot a)))

-- rows

pub tasks_stop : {X : Type 0} {l : Level} {f : X → Work} {xs : List X} {i : ℕ} {s : State} {w : Outcome Flow} (m : TasksLeft l f xs i s w) (x : X) → i < length xs → x ≡ get_or xs i x → LevelGoesOn l → (stop : Stop) (t : State) → Ends stop t (l.stmt (f x) s) → Ends stop t w
tasks_stop m x h is k stop t e = tasks_err m x h is (λ A o. Ends stop t o) (λ A B o g n p. ended_then stop t o g n p) k e

pub prints_stop : {X : Type 0} {l : Level} {f : X → Shown} {xs : List X} {i : ℕ} {s : State} {w : Outcome (Unit {0})} (m : PrintsLeft l f xs i s w) (x : X) → i < length xs → x ≡ get_or xs i x → LevelGoesOn l → (stop : Stop) (t : State) → Ends stop t (shown_form l (f x) s) → Ends stop t w
prints_stop m x h is k stop t e = prints_err m x h is (λ A o. Ends stop t o) (λ A B o g n p. ended_then stop t o g n p) k e

pub dimensions_stop : {X : Type 0} {l : Level} {f : X → Sized} {xs : List X} {i : ℕ} {ds : List Dimension} {s : State} {w : Outcome (List Dimension)} (m : DimensionsLeft l f xs i ds s w) (x : X) → i < length xs → x ≡ get_or xs i x → LevelGoesOn l → (stop : Stop) (t : State) → Ends stop t (bounds l (whole (f x).range) s) → Ends stop t w
dimensions_stop m x h is k stop t e = dimensions_err m x h is (λ A o. Ends stop t o) (λ A B o g n p. ended_then stop t o g n p) k e

-- what prints

pub prints : {X : Type 0} (text : List ℕ) (r : Result X Stop) (s t : State) → Did (λ _. tt) r t (print text s) → IsFront t.printed (s.printed ++ text) → Does (λ _. tt) r t (print text s)
unfolding print
prints text (Ok x) s t e f = e
prints text (Err (Fault p x)) s t e f = e
prints text (Err (Spent p)) s t e f = e
prints text (Err (Cyclic p names)) s t e f = e
prints text (Err NoMemory) s t e f = f
prints text (Err (Output x)) s t e f = f

pub shows : {X A : Type 0} (view : X → A) (r : Result X Stop) (t : State) (o : Outcome A) → Did view r t o → IsFront t.printed (left_by o).printed → Does view r t o
shows view (Ok x) t o e f = e
shows view (Err (Fault p x)) t o e f = e
shows view (Err (Spent p)) t o e f = e
shows view (Err (Cyclic p names)) t o e f = e
shows view (Err NoMemory) t o e f = f
shows view (Err (Output x)) t o e f = f

pub goes_listed_of : (at place : Place) (count : ℕ) (v : Value) → GoesOn (listed at place count v)
goes_listed_of at place count v = goes_then (goes_read_array place v) (λ c. goes_then (goes_unless _ at _) (λ _. goes_then (goes_charge count at) (λ _. goes_give)))

-- a part that is referred to, where there is one
pub referred : (o : Option (Bor Typed)) → optional (λ (e : Bor Typed). part e.now) o ≡ optional whole (option_map seen (option_copied o))
referred None = refl
referred (Some e) = refl
