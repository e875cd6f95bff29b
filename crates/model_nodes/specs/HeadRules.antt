-- The rule of the node of what a subterm computes. A rule of this project.
use Rattle.std.specs.Prelude.{ℕ}
use Rattle.cbl_base.specs.NodeLaw.{Rule}
use Rattle.cbl_base.specs.NumberRule.{NumberRule}
use Rattle.cbl_base.specs.declared.input.Input.TheVariants.{Int, Set}
use Rattle.cbl_operations.specs.RuleOf.{rule_of}
use Rattle.node_kinds.specs.ConstantRule.{rule_of_constant}
use Rattle.term_graph.specs.declared.head.Head.{Head}
use Rattle.term_graph.specs.declared.head.Head.TheVariants.{Const, ConstSet, Op as Operation}

abbrev pub rule_of_head : (ℕ → NumberRule) → Head → Rule
rule_of_head users (Const x) = rule_of_constant (Int x)
rule_of_head users (ConstSet s) = rule_of_constant (Set s)
rule_of_head users (Operation op) = rule_of users op
