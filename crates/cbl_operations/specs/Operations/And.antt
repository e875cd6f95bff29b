-- `a && b && ..` and `and(i in R) e` are 1 where none of the numbers is 0, so also for none, and 0 else.
-- A rule of this project.
use Rattle.std.specs.Prelude.{Ok}
use Rattle.std.specs.List.{list_all}
use Rattle.cbl_base.specs.NumberRule.{NumberRule}
use Rattle.cbl_operations.specs.Truth.{truth, is_true}
use Rattle.cbl_operations.specs.Forms.{rule_of_list}

abbrev pub and : NumberRule
and = rule_of_list (λ xs. Ok (truth (list_all is_true xs)))
