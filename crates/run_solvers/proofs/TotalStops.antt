-- A new objective of one term is a new one, and then a post; each stops the run where the meaning of programs does.
use Rattle.std.proofs.Common.{◌≡◌, ℕ, pos, Bool, true, false, length, Ok, Err, sym, ap, ◌∙◌}
use Rattle.std.specs.Prelude.{if◌then◌else◌}
use Rattle.cbl_base.specs.declared.faults.RunFault.TheVariants.{AlreadyClosed}
use Rattle.cbl_base.specs.declared.place.Place.{Place}
use Rattle.term_model.specs.declared.posting.Side.TheVariants.{Objectives}
use Rattle.term_model.specs.declared.term.Term.{Term}
use Rattle.model_values.specs.declared.wholes.Whole.TheVariants.{Objective}
use Rattle.comet_meaning.specs.Outcome.{Cyclic, Faulted}
use Rattle.comet_meaning.specs.Solvers.{SolverState}
use Rattle.run_values.specs.declared.stop.Stop.{Stop}
use Rattle.run_values.specs.declared.stop.Stop.TheVariants as stops
use Rattle.run_values.specs.declared.stop.Stop.TheVariants.{Fault, NoMemory, Output, Spent}
use Rattle.run_solvers.specs.Changing.{Made, objective_one, posted_one, refused, total_one, with_total}
use Rattle.run_solvers.specs.Makes.{Ends}

module _ (at : Place) (k : ℕ) (t : Term) (m : SolverState) where
  abbrev more : SolverState
  more = record m { model = with_total m.model Objectives at }

  abbrev first : SolverState → Made
  first n = posted_one at k (Objective (length m.model.objectives.items)) t (pos 1) n

  pub objective_posted : (n : SolverState) → total_one at Objectives m ≡ Ok n → objective_one at k t m ≡ first n
  objective_posted n e = by m.closed e
    where
      by : (b : Bool) → (if b then refused at AlreadyClosed else Ok more) ≡ Ok n → (if b then refused at AlreadyClosed else first more) ≡ first n
      by true h = let c : ◌≡◌ {A = Made} (refused at AlreadyClosed) (Ok n) = h in cc
      by false h = let same : more ≡ n = cc in ap first same

  never : (stop : Stop) (n : SolverState) (made : Made) → Ends stop (Ok n) → Ends stop made
  never (Fault place f) n made h = let c : ◌≡◌ {A = Made} (Ok n) (Err (Faulted place f)) = h in cc
  never (Spent place) n made h = h
  never (stops.Cyclic place names) n made h = let c : ◌≡◌ {A = Made} (Ok n) (Err (Cyclic place names)) = h in cc
  never NoMemory n made h = tt
  never (Output stop) n made h = h

  pub objective_stops : (stop : Stop) → Ends stop (total_one at Objectives m) → Ends stop (objective_one at k t m)
  objective_stops stop h = by m.closed h
    where
      by : (b : Bool) → Ends stop (if b then refused at AlreadyClosed else Ok more) → Ends stop (if b then refused at AlreadyClosed else first more)
      by true h = h
      by false h = never stop more (first more) h

-- the number of the new one, and that of its solver
pub first_posted : (at : Place) (number k : ℕ) (t : Term) (m n : SolverState) (index : ℕ) → index ≡ length m.model.objectives.items → number ≡ k →
    posted_one at k (Objective (length m.model.objectives.items)) t (pos 1) n ≡ posted_one at number (Objective index) t (pos 1) n
first_posted at number k t m n index e f =
    ap (λ j. posted_one at k (Objective j) t (pos 1) n) (sym e) ∙ ap (λ j. posted_one at j (Objective index) t (pos 1) n) (sym f)
