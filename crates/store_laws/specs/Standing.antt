-- On which ids of a graph that holds a model a total stands: itself, its weights, the cells of the variables on which
-- its members depend, and the nodes of the subterms on which its system or objective stands. A rule of this project.
use Rattle.std.specs.Prelude.{◌≡◌, ◌⊎◌, ℕ, ℤ, ◌<◌, ◌≤◌, true, Some}
use Rattle.model_values.specs.Support.{one_depends, roots_in, stands_on}
use Rattle.model_values.specs.declared.wholes.Whole.{Whole}
use Rattle.store_turns.specs.Meaning.{Graph}
use Rattle.term_model.specs.declared.model.Model.{Model}
use Rattle.term_model.specs.declared.term.Term.{Term}
use Rattle.graph_values.specs.Graphs.{term_at}
use Rattle.graph_values.specs.Members.{cells_of, variables_of}
use Rattle.graph_values.specs.Totals.{IsConstant}

-- a member depends on the cell's variable
abbrev pub IsVarBelow : Model → Whole → ℕ → Type 0
IsVarBelow M whole id = (id < variables_of M) × (one_depends M (roots_in M whole M.posted.items) id ≡ true)

-- the system or objective stands on the node's subterm
abbrev pub IsTermBelow : Model → Whole → ℕ → Type 0
IsTermBelow M whole id = (cells_of M ≤ id) × (t : Term) × (term_at M id ≡ Some t) × (stands_on M whole t ≡ true)

-- it is a weight: a constant, or a cell behind those of the variables
abbrev pub IsWeightBelow : Model → Graph → ℕ → Type 0
IsWeightBelow M g id = ((x : ℤ) × IsConstant g id x) ⊎ ((variables_of M ≤ id) × (id < cells_of M))

abbrev pub IsBelow : Model → Graph → Whole → ℕ → ℕ → Type 0
IsBelow M g whole target id = (id ≡ target) ⊎ (IsWeightBelow M g id ⊎ (IsVarBelow M whole id ⊎ IsTermBelow M whole id))
