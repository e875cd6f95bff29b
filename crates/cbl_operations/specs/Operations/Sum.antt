-- `sum(i in R) e` is the total of its numbers, 0 for none, and an overflow where that total doesn't fit:
-- it is one operation, so what is added up on the way needn't fit. A rule of this project.
use Rattle.cbl_base.specs.Arithmetic.{exact}
use Rattle.cbl_base.specs.NumberRule.{NumberRule}
use Rattle.cbl_base.specs.Totals.{total}
use Rattle.cbl_operations.specs.Forms.{rule_of_list}

abbrev pub sum : NumberRule
sum = rule_of_list (λ xs. exact (total xs))
