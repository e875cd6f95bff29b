-- A new variable goes behind the others, with its domain, and its number behind the others of the assignment. It is
-- refused where the solver is closed, and then where it has as many variables as it may. A rule of this project.
use Rattle.std.specs.Prelude.{◌≡◌, ℤ, [], ◌∷◌, ◌++◌, length, Option, Some, None, nat_lt, if◌then◌else◌}
use Rattle.cbl_base.specs.declared.faults.Limit.TheVariants.{Variables}
use Rattle.cbl_base.specs.declared.faults.RunFault.{RunFault}
use Rattle.cbl_base.specs.declared.faults.RunFault.TheVariants.{AlreadyClosed, TooMany}
use Rattle.cbl_base.specs.declared.limits.TheConstants.{MAX_VARIABLES}
use Rattle.solver_models.specs.State.{SolverState}
use Rattle.term_model.specs.declared.model.Model.{Model}
use Rattle.term_model.specs.declared.model.VarDecl.{VarDecl}

abbrev pub variable_refusal : SolverState → Option RunFault
variable_refusal s =
    if s.closed then Some AlreadyClosed
    else (if nat_lt (length s.model.vars.items) MAX_VARIABLES then None
    else Some (TooMany Variables))

pub record GetsVariable (M N : Model) (decl : VarDecl) : Type 0 where
  pub vars : N.vars.items ≡ M.vars.items ++ decl ∷ []
  pub defs : N.defs.items ≡ M.defs.items
  pub systems : N.systems.items ≡ M.systems.items
  pub objectives : N.objectives.items ≡ M.objectives.items
  pub posted : N.posted.items ≡ M.posted.items

pub record Declares (old new : SolverState) (decl : VarDecl) (start : ℤ) : Type 0 where
  pub number : new.number ≡ old.number
  pub model : GetsVariable old.model new.model decl
  pub assignment : new.assignment ≡ old.assignment ++ start ∷ []
  pub rules : new.rules ≡ old.rules
  pub closed : new.closed ≡ old.closed
  pub usable : new.usable ≡ old.usable
