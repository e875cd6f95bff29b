-- The graph of a model: a cell for each variable, then one for the weight of each member of a system, and behind the
-- cells, in order, a node for each distinct subterm of all that was posted. The cell of a free variable holds its
-- number, and that of a weight the weight; that of a defined variable takes the value of its definition's term. A node
-- computes its subterm's own operation of the values of the subterm's arguments. A rule of this project.
use Rattle.std.specs.Prelude.{◌≡◌, ℕ, ◌+◌, ◌-◌, ◌<◌, ◌≤◌, ◌&&◌, cond, nat_lt, List, [], ◌∷◌, length, map, Option, Some, None, Result, Ok, Err, slice_get}
use Rattle.std.specs.Option.{option_and_then}
use Rattle.cbl_base.specs.NumberRule.{NumberRule}
use Rattle.cbl_base.specs.declared.faults.RunFault.{RunFault}
use Rattle.cbl_base.specs.declared.faults.RunFault.TheVariants.{NotClosed}
use Rattle.cbl_base.specs.declared.input.Input.{Input}
use Rattle.cbl_base.specs.declared.input.Input.TheVariants.{Int, Set}
use Rattle.cbl_operations.specs.RuleOf.{rule_of}
use Rattle.store_turns.specs.Meaning.{Graph, is_empty, the_one}
use Rattle.term_model.specs.Definitions.{definition_of, term_of}
use Rattle.term_model.specs.Subterms.{arguments_of, distinct_subterms}
use Rattle.term_model.specs.declared.model.Model.{Model}
use Rattle.term_model.specs.declared.term.Term.{Term}
use Rattle.term_model.specs.declared.term.Term.TheOpen.{Term-F}
use Rattle.term_model.specs.declared.term.Term.TheViews.{out-Term}
use Rattle.term_graph.specs.Ids.{id_among}
use Rattle.graph_values.specs.Members.{cells_of}

-- how many ids the cells and the nodes of the subterms have
abbrev pub count_of : Model → ℕ
count_of M = cells_of M + length (distinct_subterms M)

-- the id whose value a term has: its variable's cell, or its node
abbrev pub id_of : Model → Term → ℕ
id_of M t = id_among (cells_of M) (distinct_subterms M) t

-- the term of a variable's definition, and the subterm of a node
abbrev pub term_defined : Model → ℕ → Option Term
term_defined M i = option_and_then (term_of M.defs.items) (definition_of M i)

abbrev pub term_at : Model → ℕ → Option Term
term_at M id = slice_get (distinct_subterms M) (id - cells_of M)

-- the ids whose values an id takes; a weight has no definition
abbrev pub inputs_of_cell : Model → Option Term → List ℕ
inputs_of_cell M (Some t) = id_of M t ∷ []
inputs_of_cell M None = []

abbrev pub inputs_of_node : Model → Option Term → List ℕ
inputs_of_node M (Some t) = map (id_of M) (arguments_of (out-Term t))
inputs_of_node M None = []

abbrev pub inputs_of : Model → ℕ → List ℕ
inputs_of M id = cond (nat_lt id (cells_of M)) (inputs_of_cell M (term_defined M id)) (inputs_of_node M (term_at M id))

-- what a subterm's own operation gives of its arguments' values; a constant is itself
abbrev pub value_by : (ℕ → NumberRule) → Term-F Term → List Input → Result Input RunFault
value_by users (Term-F.Const x) xs = Ok (Int x)
value_by users (Term-F.ConstSet s) xs = Ok (Set s)
value_by users (Term-F.Var v) xs = the_one xs
value_by users (Term-F.Node op args place) xs = (rule_of users op).value xs

abbrev pub value_of_node : (ℕ → NumberRule) → Option Term → List Input → Result Input RunFault
value_of_node users (Some t) xs = value_by users (out-Term t) xs
value_of_node users None xs = Err NotClosed

abbrev pub model_graph : (ℕ → NumberRule) → Model → Graph
model_graph users M = record {
  size = count_of M;
  inputs = inputs_of M;
  is_free = λ id. nat_lt id (cells_of M) && is_empty (inputs_of M id);
  op = λ id xs. cond (nat_lt id (cells_of M)) (the_one xs) (value_of_node users (term_at M id) xs);
}

-- the first ids of a graph are those of a model's graph; others may stand behind them
pub record HoldsTerms (users : ℕ → NumberRule) (M : Model) (g : Graph) : Type 0 where
  pub size : count_of M ≤ g.size
  pub inputs : (id : ℕ) → id < count_of M → g.inputs id ≡ inputs_of M id
  pub free : (id : ℕ) → id < count_of M → g.is_free id ≡ (model_graph users M).is_free id
  pub ops : (id : ℕ) (xs : List Input) → id < count_of M → g.op id xs ≡ (model_graph users M).op id xs
