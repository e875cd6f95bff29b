-- A model under an assignment, as a store is to hold it, and what a store is given for it. A rule of this project.
use Rattle.std.specs.Prelude.{◌≡◌, ◌<◌, ℕ, ℤ, List, [], ◌∷◌, length, slice_set, Result, Vec}
use Rattle.cbl_base.specs.NodeLaw.{Rule}
use Rattle.cbl_base.specs.NumberRule.{NumberRule}
use Rattle.cbl_base.specs.declared.ids.NodeId.{NodeId}
use Rattle.cbl_base.specs.declared.ids.VarId.{VarId}
use Rattle.graph_values.specs.Links.{AreAssigned, AreModelLinks, AreTakers}
use Rattle.graph_values.specs.Members.{cells_of, numbers_of, variables_of}
use Rattle.graph_values.specs.Outcomes.{IsGiven}
use Rattle.model_values.specs.Fresh.{Fresh, fresh_of}
use Rattle.model_values.specs.declared.failure.Failure.{Failure}
use Rattle.model_values.specs.declared.wholes.Whole.{Whole}
use Rattle.store_build.specs.Aims.{graph_over, start_of}
use Rattle.term_model.specs.Users.{user_rules}
use Rattle.term_model.specs.Wellformed.{HasDefinedSets}
use Rattle.term_model.specs.declared.model.Model.{Model}

-- a model under an assignment, with the violations of its users' constraints and the id of each of its totals
pub record Setting : Type 0 where
  pub viol_of : ℕ → List ℤ → ℤ
  pub viol_at : ℕ → List ℤ → ℕ → ℤ
  pub model : Model
  pub assignment : List ℤ
  pub total : Whole → ℕ

abbrev pub users_in : Setting → ℕ → NumberRule
users_in s = user_rules s.viol_of s.viol_at

-- the model may be evaluated, and its free variables are numbers
abbrev pub IsSetting : Setting → Type 0
IsSetting s = IsGiven s.model s.assignment × HasDefinedSets s.model

-- the numbers of its variables, and behind them the weights of its systems' members
abbrev pub numbers_in : Setting → List ℤ
numbers_in s = numbers_of s.model s.assignment

-- what evaluating it afresh gives
abbrev pub fresh_in : Setting → Result Fresh Failure
fresh_in s = fresh_of (users_in s) s.model s.assignment

-- the numbers after moves, and the same model under these
abbrev pub numbers_after : List (VarId × ℤ) → List ℤ → List ℤ
numbers_after [] a = a
numbers_after (m ∷ ms) a = slice_set (numbers_after ms a) m.0.index m.1

-- each of the moves is of a variable, and not of a weight
abbrev pub AreOfVariables : Model → List (VarId × ℤ) → Type 0
AreOfVariables M [] = Unit {0}
AreOfVariables M (m ∷ ms) = (m.0.index < variables_of M) × AreOfVariables M ms

abbrev pub after : List (VarId × ℤ) → Setting → Setting
after ms s = record {
  viol_of = s.viol_of;
  viol_at = s.viol_at;
  model = s.model;
  assignment = numbers_after ms s.assignment;
  total = s.total;
}

module _ {Z : Type 0} where
  -- rules and lists of inputs are those of the model's nodes, and each rule takes what its part of the model takes
  abbrev pub AreNodesOf : Setting → List Rule → List (Vec NodeId Z) → Type 0
  AreNodesOf s rules inputs = AreModelLinks (users_in s) s.model rules inputs s.total × AreTakers (users_in s) s.model rules inputs s.total

  -- there is a number for each cell, and those of the free cells are the assignment's and the weights
  abbrev pub AreStartsOf : Setting → List Rule → List ℤ → List (Vec NodeId Z) → Type 0
  AreStartsOf s rules start inputs =
      (length start ≡ cells_of s.model) × AreAssigned (graph_over rules (length start) inputs) (numbers_in s) (start_of start)
