-- Generators that are open, as the code keeps them: what the last one has left, and for each one below it its name with
-- its value, and what it has left. A rule of this project.
use Rattle.std.specs.Prelude.{◌≡◌, ◌≤◌, ◌-◌, ◌⊎◌, ℤ, Bool, true, false, List, [], ◌∷◌, length, map, reverse, drop, Option, None, Some, Result, Ok, Err}
use Rattle.cbl_base.specs.declared.place.Place.{Place}
use Rattle.checked_tree.specs.declared.expressions.Generator.{Generator}
use Rattle.checked_tree.specs.Shape.{shape_of_generator}
use Rattle.comet_meaning.specs.State.{State}
use Rattle.comet_meaning.specs.Outcome.{Outcome, Went, Act, then_do}
use Rattle.comet_meaning.specs.Levels.{Level, Flow}
use Rattle.comet_meaning.specs.Aggregates.{Element}
use Rattle.comet_meaning.specs.Candidates.{Candidate}
use Rattle.comet_meaning.specs.TermForms.{Keyed}
use Rattle.comet_meaning.specs.Values as values
use Rattle.comet_meaning.specs.Generators.{Bound}
use Rattle.comet_meaning.specs.Odometer as odometer
use Rattle.comet_meaning.specs.Odometer.{pending_of, next_of, rest_of, stack_of}
use Rattle.comet_meaning.specs.Onward.{GoesOn}
use Rattle.run_values.specs.declared.stop.Stop.{Stop}
use Rattle.run_values.specs.Views.{bounds_seen}
use Rattle.run_steps.specs.Does.{Ends}
use Rattle.run_steps.specs.declared.tuples.Entered.{Entered}
use Rattle.run_steps.specs.declared.tuples.Pending.{Pending}
use Rattle.run_steps.specs.declared.tuples.Pending.TheVariants.{Done, Numbers, Members}
use Rattle.run_steps.specs.declared.tuples.Tuples.{Tuples}

abbrev pub pending_seen : Pending → odometer.Pending
pending_seen Done = odometer.Members []
pending_seen (Numbers b) = pending_of (values.Range (bounds_seen b))
pending_seen (Members set i) = odometer.Members (drop i set)

abbrev pub bound_seen : Entered → Bound
bound_seen e = record { slot = e.slot; value = e.value }

abbrev pub names_seen : List Entered → List Bound
names_seen es = map bound_seen es

-- what the generators below the last one have left, the last one first
abbrev pub rests_seen : List Entered → List odometer.Pending
rests_seen es = reverse (map (λ e. pending_seen e.rest) es)

abbrev pub bounds_of : Tuples → List Bound
bounds_of t = names_seen t.below.items

abbrev pub stack_seen : Tuples → List odometer.Pending
stack_seen t = pending_seen t.top ∷ rests_seen t.below.items

-- the same values are left
abbrev pub SameLeft : odometer.Pending → odometer.Pending → Type 0
SameLeft p q = (p ≡ q) ⊎ ((next_of p ≡ None) × (next_of q ≡ None))

-- what is made over tuples: the elements of an aggregate, in a term the bodies of one, how a statement ends, or the
-- candidates of a selector
pub data Made : Type 0 where
  elements : Made
  bodies : Made
  flow : Made
  candidates : Made

abbrev pub made_of : Made → Type 0
made_of elements = List Element
made_of bodies = List Keyed
made_of flow = Flow
made_of candidates = List Candidate

-- what is done with tuples, what was made so far, and the outcome of all
pub record Visits : Type 0 where
  pub made : Made
  pub more : made_of made → Bool
  pub visit : ℤ → made_of made → Act (made_of made)
  pub so_far : made_of made
  pub whole : Outcome (made_of made)
  pub goes : (v : ℤ) (x : made_of made) → GoesOn (visit v x)
  pub on : more so_far ≡ true

-- what is still to be done from here is the whole; each generator but the last open one has a value
pub record Remains (l : Level) (at : Place) (V : Visits) (gs : List Generator) (bounds : List Bound) (ps : List odometer.Pending) (s : State) : Type 0 where
  pub rest : rest_of l at V.more V.visit (stack_of (map shape_of_generator gs) bounds ps) V.so_far s ≡ V.whole
  pub known : length bounds ≡ length ps - 1
  pub inside : length ps ≤ length gs

-- a tuple's names have their values, its visit comes next, and then the rest
pub record Found (l : Level) (at : Place) (V : Visits) (gs : List Generator) (bounds : List Bound) (ps : List odometer.Pending) (v : ℤ) (s : State) : Type 0 where
  pub rest : then_do (V.visit v V.so_far s) (λ x. rest_of l at V.more V.visit (stack_of (map shape_of_generator gs) bounds ps) x) ≡ V.whole
  pub known : length bounds ≡ length ps - 1
  pub inside : length ps ≤ length gs

-- one value of the last open generator was begun: the tuple is whole, or the next generator opened
abbrev pub Entering : Level → Place → Visits → List Generator → Result Bool Stop → Tuples → ℤ → State → Type 0
Entering l at V gs (Ok true) t v s = Found l at V gs (bounds_of t) (stack_seen t) v s
Entering l at V gs (Ok false) t v s = Remains l at V gs (bounds_of t) (stack_seen t) s
Entering l at V gs (Err stop) t v s = Ends stop s V.whole

-- the next tuple was found, or there is none
abbrev pub Advances : Level → Place → Visits → List Generator → Result (Option ℤ) Stop → Tuples → State → Type 0
Advances l at V gs (Ok (Some v)) t s = Found l at V gs (bounds_of t) (stack_seen t) v s
Advances l at V gs (Ok None) t s = V.whole ≡ Went V.so_far s
Advances l at V gs (Err stop) t s = Ends stop s V.whole
