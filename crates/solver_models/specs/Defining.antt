-- A definition goes behind the others, and is posted last. It is refused where the solver is closed; then where the
-- variable, or one in the term, isn't the solver's; then where the variable has a definition; and then where the term
-- is too deep, or the distinct subterms with it are too many. A rule of this project.
use Rattle.std.specs.Prelude.{◌≡◌, Bool, ◌&&◌, ◌||◌, not, List, [], ◌∷◌, ◌++◌, fold, length, Option, Some, None, nat_le, if◌then◌else◌}
use Rattle.cbl_base.specs.declared.faults.Limit.TheVariants.{TermNodes}
use Rattle.cbl_base.specs.declared.faults.RunFault.{RunFault}
use Rattle.cbl_base.specs.declared.faults.RunFault.TheVariants.{AlreadyClosed, DefinedVariable, TooMany, WrongSolver}
use Rattle.cbl_base.specs.declared.ids.VarId.{VarId}
use Rattle.cbl_base.specs.declared.limits.TheConstants.{MAX_TERM_DEPTH, MAX_TERM_NODES}
use Rattle.solver_models.specs.Ids.{has_definition, is_own, names_only}
use Rattle.solver_models.specs.State.{SolverState}
use Rattle.term_model.specs.Depth.{depth_of}
use Rattle.term_model.specs.Subterms.{distinct_subterms, subterms, with_subterm}
use Rattle.term_model.specs.declared.model.Definition.{Definition}
use Rattle.term_model.specs.declared.model.Model.{Model}
use Rattle.term_model.specs.declared.model.Posted.TheVariants.{Define}
use Rattle.term_model.specs.declared.term.Term.{Term}

-- whether all ids in a definition are the solver's
abbrev pub is_own_definition : SolverState → VarId → Term → Bool
is_own_definition s x t = is_own s x && names_only (is_own s) t

abbrev pub early_refusal : SolverState → VarId → Term → Option RunFault
early_refusal s x t =
    if s.closed then Some AlreadyClosed
    else (if not (is_own_definition s x t) then Some WrongSolver
    else (if has_definition s.model x.index then Some DefinedVariable
    else None))

-- whether the term is deeper than a term may be
abbrev pub is_too_deep : Term → Bool
is_too_deep t = not (nat_le (depth_of t) MAX_TERM_DEPTH)

-- distinct subterms, and then those of a term that aren't among them
abbrev pub distinct_with : List Term → Term → List Term
distinct_with ts t = fold with_subterm ts (subterms t)

-- whether there are more of them than there may be
abbrev pub are_too_many : List Term → Bool
are_too_many ts = not (nat_le (length ts) MAX_TERM_NODES)

abbrev pub size_refusal : Model → Term → Option RunFault
size_refusal M t = if is_too_deep t || are_too_many (distinct_with (distinct_subterms M) t) then Some (TooMany TermNodes) else None

abbrev pub first_refusal : Option RunFault → Option RunFault → Option RunFault
first_refusal (Some fault) later = Some fault
first_refusal None later = later

abbrev pub define_refusal : SolverState → VarId → Term → Option RunFault
define_refusal s x t = first_refusal (early_refusal s x t) (size_refusal s.model t)

pub record GetsDefinition (M N : Model) (def : Definition) : Type 0 where
  pub vars : N.vars.items ≡ M.vars.items
  pub defs : N.defs.items ≡ M.defs.items ++ def ∷ []
  pub systems : N.systems.items ≡ M.systems.items
  pub objectives : N.objectives.items ≡ M.objectives.items
  pub posted : N.posted.items ≡ M.posted.items ++ Define (length M.defs.items) ∷ []

pub record Defines (old new : SolverState) (def : Definition) : Type 0 where
  pub number : new.number ≡ old.number
  pub model : GetsDefinition old.model new.model def
  pub assignment : new.assignment ≡ old.assignment
  pub rules : new.rules ≡ old.rules
  pub closed : new.closed ≡ old.closed
  pub usable : new.usable ≡ old.usable
