-- The rule of `And` and of `Or`, by its name. A rule of this project.
use Rattle.cbl_base.specs.NumberRule.{NumberRule}
use Rattle.cbl_operations.specs.Operations.And.{and}
use Rattle.cbl_operations.specs.Operations.Or.{or}
use Rattle.node_num.specs.declared.junction.JunctionKind.{JunctionKind}
use Rattle.node_num.specs.declared.junction.JunctionKind.TheVariants.{And, Or}

abbrev pub rule_of_junction : JunctionKind → NumberRule
rule_of_junction And = and
rule_of_junction Or = or
