-- The nodes of users' constraints, by number, each in its place until it is taken for its subterm. A rule of this project.
use Rattle.std.specs.Prelude.{◌≡◌, ℕ, ◌≤◌, List, Option, Some, None, slice_get}
use Rattle.cbl_base.specs.NodeLaw.{Rule}
use Rattle.cbl_base.specs.NumberRule.{NumberRule}
use Rattle.cbl_operations.specs.RuleOf.{rule_of}
use Rattle.cbl_operations.specs.declared.op.Op.{Op}
use Rattle.cbl_operations.specs.declared.op.Op.TheVariants.{User}
use Rattle.term_graph.specs.Heads.{head_of}
use Rattle.term_graph.specs.declared.head.Head.{Head}
use Rattle.term_graph.specs.declared.head.Head.TheVariants.{Const, ConstSet, Op as Operation}
use Rattle.term_model.specs.Subterms.{distinct_subterms}
use Rattle.term_model.specs.declared.model.Model.{Model}
use Rattle.term_model.specs.declared.term.Term.{Term}

-- the number of a user's constraint
abbrev pub user_in : Op → Option ℕ
user_in (User number) = Some number
user_in op = None

abbrev pub user_in_head : Head → Option ℕ
user_in_head (Const x) = None
user_in_head (ConstSet s) = None
user_in_head (Operation op) = user_in op

module _ {N : Type 0} where
  -- each has the rule of the user's constraint with its number
  abbrev pub AreUserNodes : (N → Rule) → (ℕ → NumberRule) → List N → Type 0
  AreUserNodes rule users nodes = (number : ℕ) (node : N) → slice_get nodes number ≡ Some node → rule node ≡ rule_of users (User number)

  -- the same of those that are in their places
  abbrev pub AreWaiting : (N → Rule) → (ℕ → NumberRule) → List (Option N) → Type 0
  AreWaiting rule users waiting = (number : ℕ) (node : N) → slice_get waiting number ≡ Some (Some node) → rule node ≡ rule_of users (User number)

  -- the node of this number is in its place
  abbrev pub IsThere : List (Option N) → ℕ → Type 0
  IsThere waiting number = (node : N) × (slice_get waiting number ≡ Some (Some node))

  abbrev pub IsThereFor : List (Option N) → Head → Type 0
  IsThereFor waiting head = (number : ℕ) → user_in_head head ≡ Some number → IsThere waiting number

  -- those of the subterms from this place on are
  abbrev pub AreLeft : Model → ℕ → List (Option N) → Type 0
  AreLeft M k waiting = (j : ℕ) (t : Term) (head : Head) → k ≤ j → slice_get (distinct_subterms M) j ≡ Some t → head_of t ≡ Some head → IsThereFor waiting head

  -- only that of this head, if there is any, was taken
  abbrev pub IsTakenFor : Head → List (Option N) → List (Option N) → Type 0
  IsTakenFor head old new = (number : ℕ) → (user_in_head head ≡ Some number → ⊥) → slice_get new number ≡ slice_get old number
