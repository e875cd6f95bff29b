-- A constraint goes behind the others of its system, and a term behind those of its objective, with its weight, and is
-- posted last. It is refused where the solver is closed; then where the system or objective, or a variable in the term,
-- isn't the solver's; then where the weight is negative; and then where the term is too deep, or the distinct subterms
-- with it are too many. A rule of this project.
use Rattle.std.specs.Prelude.{◌≡◌, ℕ, ℤ, pos, Bool, ◌&&◌, not, List, [], ◌∷◌, ◌++◌, length, int_lt, Option, Some, None, slice_get, slice_set, if◌then◌else◌}
use Rattle.cbl_base.specs.declared.faults.RunFault.{RunFault}
use Rattle.cbl_base.specs.declared.faults.RunFault.TheVariants.{AlreadyClosed, OutOfRange, WrongSolver}
use Rattle.solver_models.specs.Defining.{first_refusal, size_refusal}
use Rattle.solver_models.specs.Ids.{is_own, names_only}
use Rattle.solver_models.specs.State.{SolverState}
use Rattle.solver_models.specs.Totals.{is_own_total, other_side}
use Rattle.solver_models.specs.declared.totals.TotalId.{TotalId}
use Rattle.term_model.specs.Posting.{totals_by}
use Rattle.term_model.specs.declared.model.Member.{Member}
use Rattle.term_model.specs.declared.model.Model.{Model}
use Rattle.term_model.specs.declared.model.Posted.{Posted}
use Rattle.term_model.specs.declared.model.Posted.TheVariants.{Constrain, Part}
use Rattle.term_model.specs.declared.model.Total.{Total}
use Rattle.term_model.specs.declared.posting.Side.{Side}
use Rattle.term_model.specs.declared.posting.Side.TheVariants.{Systems, Objectives}
use Rattle.term_model.specs.declared.term.Term.{Term}

-- whether the system or objective and all ids in a term are the solver's
abbrev pub is_own_member : SolverState → TotalId → Term → Bool
is_own_member s k t = is_own_total s k && names_only (is_own s) t

abbrev pub early_member_refusal : SolverState → TotalId → Term → ℤ → Option RunFault
early_member_refusal s k t weight =
    if s.closed then Some AlreadyClosed
    else (if not (is_own_member s k t) then Some WrongSolver
    else (if int_lt weight (pos 0) then Some OutOfRange
    else None))

abbrev pub member_refusal : SolverState → TotalId → Term → ℤ → Option RunFault
member_refusal s k t weight = first_refusal (early_member_refusal s k t weight) (size_refusal s.model t)

-- the constraint of a system, or the term of an objective, with this number there
abbrev pub posted_at : Side → ℕ → ℕ → Posted
posted_at Systems k member = Constrain k member
posted_at Objectives k member = Part k member

-- of the systems or objectives the one at a place has a member more, behind its others
pub record Grows (before after : List Total) (k : ℕ) (member : Member) : Type 0 where
  pub old : Total
  pub new : Total
  pub stood : slice_get before k ≡ Some old
  pub same : new.place ≡ old.place
  pub members : new.members.items ≡ old.members.items ++ member ∷ []
  pub all : after ≡ slice_set before k new

pub record GetsMember (M N : Model) (side : Side) (k : ℕ) (member : Member) : Type 0 where
  pub vars : N.vars.items ≡ M.vars.items
  pub defs : N.defs.items ≡ M.defs.items
  pub totals : Grows (totals_by M side) (totals_by N side) k member
  pub others : totals_by N (other_side side) ≡ totals_by M (other_side side)
  pub posted : N.posted.items ≡ M.posted.items ++ posted_at side k (length totals.old.members.items) ∷ []

pub record Adds (old new : SolverState) (k : TotalId) (member : Member) : Type 0 where
  pub number : new.number ≡ old.number
  pub model : GetsMember old.model new.model k.side k.index member
  pub assignment : new.assignment ≡ old.assignment
  pub rules : new.rules ≡ old.rules
  pub closed : new.closed ≡ old.closed
  pub usable : new.usable ≡ old.usable
