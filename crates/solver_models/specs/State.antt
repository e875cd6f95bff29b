-- What a solver is: the number that its ids carry, its model, an assignment with a number for each variable, the rules of
-- its users' constraints in order of posting, whether it is closed, and whether it may still be used. Nothing else of a solver can be told from outside. A rule of this
-- project.
use Rattle.std.specs.Prelude.{◌≡◌, ℕ, ℤ, Bool, true, false, List, []}
use Rattle.term_model.specs.declared.model.Model.{Model}
use Rattle.posted_users.specs.KeptRule.{KeptRule}

pub record SolverState : Type 0 where
  pub number : ℕ
  pub model : Model
  pub assignment : List ℤ
  pub rules : List KeptRule
  pub closed : Bool
  pub usable : Bool

-- the two models have the same variables, definitions, systems, objectives and postings
pub record IsSameModel (M N : Model) : Type 0 where
  pub vars : N.vars.items ≡ M.vars.items
  pub defs : N.defs.items ≡ M.defs.items
  pub systems : N.systems.items ≡ M.systems.items
  pub objectives : N.objectives.items ≡ M.objectives.items
  pub posted : N.posted.items ≡ M.posted.items

-- nothing of the solver changed
pub record IsUnchanged (old new : SolverState) : Type 0 where
  pub number : new.number ≡ old.number
  pub model : IsSameModel old.model new.model
  pub assignment : new.assignment ≡ old.assignment
  pub rules : new.rules ≡ old.rules
  pub closed : new.closed ≡ old.closed
  pub usable : new.usable ≡ old.usable

-- a solver without variables, which is open
pub record IsNew (number : ℕ) (s : SolverState) : Type 0 where
  pub numbered : s.number ≡ number
  pub vars : s.model.vars.items ≡ []
  pub defs : s.model.defs.items ≡ []
  pub systems : s.model.systems.items ≡ []
  pub objectives : s.model.objectives.items ≡ []
  pub posted : s.model.posted.items ≡ []
  pub assignment : s.assignment ≡ []
  pub rules : s.rules ≡ []
  pub closed : s.closed ≡ false
  pub usable : s.usable ≡ true
