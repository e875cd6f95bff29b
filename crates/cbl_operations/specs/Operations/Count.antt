-- `count(a, e)` is how many cells of `a` equal `e`: the cells stand first, and `e` last. A rule of this
-- project.
use Rattle.std.specs.Prelude.{pos, ◌-◌, Ok, length, take}
use Rattle.cbl_base.specs.Counts.{count_of}
use Rattle.cbl_base.specs.NumberRule.{NumberRule}
use Rattle.cbl_operations.specs.Forms.{number_at, rule_of_some}

abbrev pub count : NumberRule
count = rule_of_some (λ xs.
    let cells = length xs - 1 in
    Ok (pos (count_of (number_at xs cells) (take cells xs))))
