-- A system or an objective of a solver: its id carries the solver's number, and its place among those of its side. A
-- new one goes behind the others of its side, with its place in the program and without members; it is refused where
-- the solver is closed. A rule of this project.
use Rattle.std.specs.Prelude.{◌≡◌, ℕ, Bool, ◌&&◌, List, [], ◌∷◌, ◌++◌, length, nat_eq, nat_lt, Option, Some, None, if◌then◌else◌}
use Rattle.cbl_base.specs.declared.faults.RunFault.{RunFault}
use Rattle.cbl_base.specs.declared.faults.RunFault.TheVariants.{AlreadyClosed}
use Rattle.cbl_base.specs.declared.place.Place.{Place}
use Rattle.model_values.specs.Fresh.{whole_by}
use Rattle.model_values.specs.declared.wholes.Whole.{Whole}
use Rattle.solver_models.specs.State.{SolverState}
use Rattle.solver_models.specs.declared.totals.ObjectiveId.{ObjectiveId}
use Rattle.solver_models.specs.declared.totals.SystemId.{SystemId}
use Rattle.solver_models.specs.declared.totals.TotalId.{TotalId}
use Rattle.term_model.specs.Posting.{totals_by}
use Rattle.term_model.specs.declared.model.Model.{Model}
use Rattle.term_model.specs.declared.model.Total.{Total}
use Rattle.term_model.specs.declared.posting.Side.{Side}
use Rattle.term_model.specs.declared.posting.Side.TheVariants.{Systems, Objectives}

-- the system, or the objective, with an id
abbrev pub of_system : SystemId → TotalId
of_system s = record { side = Systems; solver = s.solver; index = s.index }

abbrev pub of_objective : ObjectiveId → TotalId
of_objective f = record { side = Objectives; solver = f.solver; index = f.index }

abbrev pub whole_of : TotalId → Whole
whole_of k = whole_by k.side k.index

-- whether it is one that the solver gave
abbrev pub is_own_total : SolverState → TotalId → Bool
is_own_total s k = nat_eq k.solver s.number && nat_lt k.index (length (totals_by s.model k.side))

-- the id of the one at a place
abbrev pub total_at : SolverState → Side → ℕ → TotalId
total_at s side i = record { side = side; solver = s.number; index = i }

abbrev pub total_refusal : SolverState → Option RunFault
total_refusal s = if s.closed then Some AlreadyClosed else None

abbrev pub other_side : Side → Side
other_side Systems = Objectives
other_side Objectives = Systems

-- the systems or objectives, and one more without members that stands at a place of the program
pub record IsPushed (before after : List Total) (place : Place) : Type 0 where
  pub last : Total
  pub placed : last.place ≡ place
  pub blank : last.members.items ≡ []
  pub all : after ≡ before ++ last ∷ []

pub record GetsTotal (M N : Model) (side : Side) (place : Place) : Type 0 where
  pub vars : N.vars.items ≡ M.vars.items
  pub defs : N.defs.items ≡ M.defs.items
  pub totals : IsPushed (totals_by M side) (totals_by N side) place
  pub others : totals_by N (other_side side) ≡ totals_by M (other_side side)
  pub posted : N.posted.items ≡ M.posted.items

pub record MakesTotal (old new : SolverState) (side : Side) (place : Place) : Type 0 where
  pub number : new.number ≡ old.number
  pub model : GetsTotal old.model new.model side place
  pub assignment : new.assignment ≡ old.assignment
  pub rules : new.rules ≡ old.rules
  pub closed : new.closed ≡ old.closed
  pub usable : new.usable ≡ old.usable
