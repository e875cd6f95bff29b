-- The nodes and lists of inputs that a store is given for a model: as many lists as the graph of the model with its
-- totals has ids, each holding that id's inputs there, and behind the cells for each id the rule of its part of the
-- model: what a subterm's own operation computes, a weight, a total, or the repeat of one. A rule of this project.
use Rattle.std.specs.Prelude.{◌≡◌, ℕ, ◌+◌, ◌-◌, ◌<◌, ◌≤◌, List, length, Option, Some, None, Vec, slice_get}
use Rattle.cbl_base.specs.NodeLaw.{Rule}
use Rattle.cbl_base.specs.NumberRule.{NumberRule}
use Rattle.cbl_base.specs.declared.ids.NodeId.{NodeId}
use Rattle.cbl_base.specs.declared.input.Input.TheVariants.{Int, Set}
use Rattle.cbl_operations.specs.RuleOf.{rule_of}
use Rattle.cbl_violations.specs.Violations.Repeat.{repeat}
use Rattle.cbl_violations.specs.Violations.WeightedTotal.{weighted_total}
use Rattle.model_values.specs.declared.wholes.Whole.{Whole}
use Rattle.model_values.specs.declared.wholes.Whole.TheVariants.{System, Objective}
use Rattle.node_kinds.specs.ConstantRule.{rule_of_constant}
use Rattle.store_build.specs.Lists.{list_in}
use Rattle.store_turns.specs.Meaning.{ids_of}
use Rattle.term_model.specs.declared.model.Model.{Model}
use Rattle.term_model.specs.declared.term.Term.{Term}
use Rattle.term_model.specs.declared.term.Term.TheOpen.{Term-F}
use Rattle.term_model.specs.declared.term.Term.TheViews.{out-Term}
use Rattle.graph_values.specs.Graphs.{count_of, term_at}
use Rattle.graph_values.specs.Members.{cells_of, members_of}
use Rattle.graph_values.specs.WholeGraphs.{by_range, first_objective, first_system, inputs_in_whole, weight_at}
use Rattle.store_laws.specs.ModelTouch.{many_nodes}

-- the rule of a subterm's node; a variable has none
abbrev pub rule_by : (ℕ → NumberRule) → Term-F Term → Option Rule
rule_by users (Term-F.Const x) = Some (rule_of_constant (Int x))
rule_by users (Term-F.ConstSet s) = Some (rule_of_constant (Set s))
rule_by users (Term-F.Var v) = None
rule_by users (Term-F.Node op args place) = Some (rule_of users op)

abbrev pub rule_of_subterm : (ℕ → NumberRule) → Option Term → Option Rule
rule_of_subterm users (Some t) = rule_by users (out-Term t)
rule_of_subterm users None = None

abbrev pub rule_of_total : Model → Whole → Option Rule
rule_of_total M whole = Some (weighted_total (length (members_of M whole)))

-- the rule of each node of the model's graph with its totals
abbrev pub rule_in_whole : (ℕ → NumberRule) → Model → ℕ → Option Rule
rule_in_whole users M id =
    by_range M id (rule_of_subterm users (term_at M id)) (Some (rule_of_constant (Int (weight_at M (id - count_of M))))) (rule_of_total M (System (id - first_system M))) (rule_of_total M (Objective (id - first_objective M))) (Some repeat)

pub record AreWholeNodes {Z : Type 0} (users : ℕ → NumberRule) (M : Model) (rules : List Rule) (lists : List (Vec NodeId Z)) : Type 0 where
  pub size : length lists ≡ many_nodes M
  pub count : cells_of M + length rules ≡ length lists
  pub inputs : (id : ℕ) → id < length lists → ids_of (list_in lists id) ≡ inputs_in_whole M id
  pub rules_are : (id : ℕ) → cells_of M ≤ id → id < length lists → slice_get rules (id - cells_of M) ≡ rule_in_whole users M id
