-- What is known of a member and a definition that aren't refused, whatever their size.
use Rattle.std.proofs.Common.{◌≡◌, ℤ, Bool, true, false, Some, None, refl}
use Rattle.std.specs.Prelude.{not, if◌then◌else◌}
use Rattle.cbl_base.specs.declared.faults.RunFault.TheVariants.{AlreadyClosed, WrongSolver}
use Rattle.cbl_base.specs.declared.faults.RunFault.{RunFault}
use Rattle.cbl_base.specs.declared.ids.VarId.{VarId}
use Rattle.solver_models.specs.Adding.{early_member_refusal, is_own_member}
use Rattle.solver_models.specs.Defining.{early_refusal, is_own_definition}
use Rattle.solver_models.specs.State.{SolverState}
use Rattle.solver_models.specs.declared.totals.TotalId.{TotalId}
use Rattle.std.specs.Prelude.{Option}
use Rattle.term_model.specs.declared.term.Term.{Term}

-- what isn't refused is one's own
not_refused : (later : Option RunFault) (closed own : Bool) → (if closed then Some AlreadyClosed else (if not own then Some WrongSolver else later)) ≡ None → own ≡ true
not_refused later true own h = let c : Some AlreadyClosed ≡ None = h in cc
not_refused later false false h = let c : Some WrongSolver ≡ None = h in cc
not_refused later false true h = refl

pub own_member : (s : SolverState) (k : TotalId) (t : Term) (weight : ℤ) → early_member_refusal s k t weight ≡ None → is_own_member s k t ≡ true
own_member s k t weight h = not_refused _ s.closed (is_own_member s k t) h

pub own_definition : (s : SolverState) (x : VarId) (t : Term) → early_refusal s x t ≡ None → is_own_definition s x t ≡ true
own_definition s x t h = not_refused _ s.closed (is_own_definition s x t) h
