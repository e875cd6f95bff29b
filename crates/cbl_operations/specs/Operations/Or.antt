-- `a || b || ..` and `or(i in R) e` are 1 where some of the numbers is not 0, and 0 else, so also for
-- none. A rule of this project.
use Rattle.std.specs.Prelude.{Ok}
use Rattle.std.specs.List.{list_any}
use Rattle.cbl_base.specs.NumberRule.{NumberRule}
use Rattle.cbl_operations.specs.Truth.{truth, is_true}
use Rattle.cbl_operations.specs.Forms.{rule_of_list}

abbrev pub or : NumberRule
or = rule_of_list (λ xs. Ok (truth (list_any is_true xs)))
