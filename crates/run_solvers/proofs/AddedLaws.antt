-- A variable that begins with a definition is declared, and then defined.
use Rattle.std.proofs.Common.{◌≡◌, ℕ, ℤ, pos, Bool, true, false, List, Ok, Err, refl, sym, ap, ◌∙◌, subst}
use Rattle.std.specs.Prelude.{nat_lt, if◌then◌else◌}
use Rattle.cbl_base.specs.declared.faults.Limit.TheVariants.{Variables}
use Rattle.cbl_base.specs.declared.faults.RunFault.TheVariants.{AlreadyClosed, TooMany}
use Rattle.cbl_base.specs.declared.ids.VarId.{VarId}
use Rattle.cbl_base.specs.declared.place.Place.{Place}
use Rattle.term_model.specs.declared.model.VarDecl.{VarDecl}
use Rattle.term_model.specs.declared.term.Term.{Term}
use Rattle.comet_meaning.specs.Limits.{most_variables}
use Rattle.comet_meaning.specs.Outcome.{Halt, Faulted, Cyclic}
use Rattle.comet_meaning.specs.Solvers.{SolverState, variable_count}
use Rattle.comet_meaning.specs.Variables.{defined, free, next_variable, with_variable}
use Rattle.run_values.specs.declared.stop.Stop.{Stop}
use Rattle.run_values.specs.declared.stop.Stop.TheVariants as stops
use Rattle.run_values.specs.declared.stop.Stop.TheVariants.{Fault, Spent, NoMemory, Output}
use Rattle.run_solvers.specs.Changing.{Made, refused, added_one, declared_one, defined_one}
use Rattle.run_solvers.specs.Makes.{Ends}

-- with a number it is declared
pub added_free : (at : Place) (k : ℕ) (d : VarDecl) (name : List ℕ) (z : ℤ) (m : SolverState) → added_one at k d name (free z) m ≡ declared_one at d name z m
added_free at k d name z m = refl

-- with a definition it is defined, where it was declared
pub added_defined : (at : Place) (k : ℕ) (d : VarDecl) (name : List ℕ) (t : Term) (m n : SolverState) → declared_one at d name (pos 0) m ≡ Ok n → added_one at k d name (defined t) m ≡ defined_one at (next_variable k m) t n
added_defined at k d name t m n e = by m.closed (nat_lt (variable_count m) most_variables) e
  where
    by : (b c : Bool) → (if b then refused at AlreadyClosed else (if c then Ok (with_variable m d name (pos 0)) else refused at (TooMany Variables))) ≡ Ok n →
        (if b then refused at AlreadyClosed else (if c then defined_one at (next_variable k m) t (with_variable m d name (pos 0)) else refused at (TooMany Variables))) ≡ defined_one at (next_variable k m) t n
    by true c h = let no_ : refused at AlreadyClosed ≡ Ok n = h in cc
    by false true h = let same : with_variable m d name (pos 0) ≡ n = cc in ap (λ (o : SolverState). defined_one at (next_variable k m) t o) same
    by false false h = let no_ : refused at (TooMany Variables) ≡ Ok n = h in cc

-- and it halts the run where it can't be declared
pub added_refused : (at : Place) (k : ℕ) (d : VarDecl) (name : List ℕ) (t : Term) (m : SolverState) (h : Halt) → declared_one at d name (pos 0) m ≡ Err h → added_one at k d name (defined t) m ≡ Err h
added_refused at k d name t m h e = by m.closed (nat_lt (variable_count m) most_variables) e
  where
    by : (b c : Bool) → (if b then refused at AlreadyClosed else (if c then Ok (with_variable m d name (pos 0)) else refused at (TooMany Variables))) ≡ Err h →
        (if b then refused at AlreadyClosed else (if c then defined_one at (next_variable k m) t (with_variable m d name (pos 0)) else refused at (TooMany Variables))) ≡ Err h
    by true c e = e
    by false true e = let no_ : Ok (with_variable m d name (pos 0)) ≡ Err h = e in cc
    by false false e = e

-- the run ends then as it is meant to
pub added_stops : (at : Place) (k : ℕ) (d : VarDecl) (name : List ℕ) (t : Term) (m : SolverState) (stop : Stop) → Ends stop (declared_one at d name (pos 0) m) → Ends stop (added_one at k d name (defined t) m)
added_stops at k d name t m (Fault place f) h = added_refused at k d name t m (Faulted place f) h
added_stops at k d name t m (Spent place) h = absurd h
added_stops at k d name t m (stops.Cyclic place names) h = added_refused at k d name t m (Cyclic place names) h
added_stops at k d name t m NoMemory h = tt
added_stops at k d name t m (Output stop) h = absurd h

-- and where it can't be defined
pub defined_stops : (at : Place) (k : ℕ) (d : VarDecl) (name : List ℕ) (t : Term) (m n : SolverState) (x : VarId) (stop : Stop) → declared_one at d name (pos 0) m ≡ Ok n → x ≡ next_variable k m → Ends stop (defined_one at x t n) → Ends stop (added_one at k d name (defined t) m)
defined_stops at k d name t m n x stop e id h = subst (λ (made : Made). Ends stop made) (ap (λ (y : VarId). defined_one at y t n) id ∙ sym (added_defined at k d name t m n e)) h
