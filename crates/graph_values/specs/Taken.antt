-- What the nodes of a graph that holds a model are given: inputs of the number and kinds that they take. A rule of
-- this project.
use Rattle.std.specs.Prelude.{◌≡◌, ℕ, Bool, IsTrue, List, [], ◌∷◌, ◌+◌, length, map, nat_eq, Some, slice_get}
use Rattle.cbl_base.specs.Inputs.{InputKind, kinds_of}
use Rattle.cbl_base.specs.NumberRule.{NumberRule}
use Rattle.cbl_base.specs.declared.input.Input.{Input}
use Rattle.cbl_operations.specs.RuleOf.{rule_of}
use Rattle.cbl_violations.specs.Violations.Repeat.{repeat}
use Rattle.cbl_violations.specs.Violations.WeightedTotal.{weighted_total}
use Rattle.model_values.specs.Wholes.{IsOf}
use Rattle.model_values.specs.declared.wholes.Whole.{Whole}
use Rattle.store_turns.specs.Meaning.{Graph, values_of}
use Rattle.store_turns.specs.declared.outcome.Outcome.{Outcome}
use Rattle.term_model.specs.Subterms.{distinct_subterms}
use Rattle.term_model.specs.declared.model.Model.{Model}
use Rattle.term_model.specs.declared.term.Term.{Term}
use Rattle.term_model.specs.declared.term.Term.TheOpen.{Term-F}
use Rattle.term_model.specs.declared.term.Term.TheViews.{out-Term}
use Rattle.graph_values.specs.Members.{cells_of, members_of}

-- whether a subterm's own operation takes inputs of these kinds; a constant takes none
abbrev pub takes_by : (ℕ → NumberRule) → Term-F Term → List InputKind → Bool
takes_by users (Term-F.Const x) kinds = nat_eq (length kinds) 0
takes_by users (Term-F.ConstSet s) kinds = nat_eq (length kinds) 0
takes_by users (Term-F.Var v) kinds = nat_eq (length kinds) 1
takes_by users (Term-F.Node op args place) kinds = (rule_of users op).takes kinds

-- whatever the ids come to over an assignment, each subterm's node, each total and each repeat of a total takes what
-- its inputs come to, where all have values
pub record AreTaken (users : ℕ → NumberRule) (M : Model) (g : Graph) (id_of_total : Whole → ℕ) (o : ℕ → Outcome) : Type 0 where
  pub terms : (k : ℕ) (t : Term) (xs : List Input) → slice_get (distinct_subterms M) k ≡ Some t → values_of (map o (g.inputs (cells_of M + k))) ≡ Some xs → IsTrue (takes_by users (out-Term t) (kinds_of xs))
  pub totals : (whole : Whole) (xs : List Input) → IsOf M whole → values_of (map o (g.inputs (id_of_total whole))) ≡ Some xs → IsTrue ((weighted_total (length (members_of M whole))).takes (kinds_of xs))
  pub repeats : (whole : Whole) (xs : List Input) → IsOf M whole → values_of (map o (id_of_total whole ∷ [])) ≡ Some xs → IsTrue (repeat.takes (kinds_of xs))
