-- The operations on a list of numbers, one line each: the rule of each, and its number, in order of declaration. A
-- rule of this project.
use Rattle.std.specs.Prelude.{ℕ}
use Rattle.cbl_base.specs.NumberRule.{NumberRule}
use Rattle.cbl_operations.specs.Operations.And.{and}
use Rattle.cbl_operations.specs.Operations.Count.{count}
use Rattle.cbl_operations.specs.Operations.Greatest.{greatest}
use Rattle.cbl_operations.specs.Operations.Least.{least}
use Rattle.cbl_operations.specs.Operations.Or.{or}
use Rattle.cbl_operations.specs.Operations.Sum.{sum}
use Rattle.cbl_operations.specs.declared.nary.NaryOp.{NaryOp}
use Rattle.cbl_operations.specs.declared.nary.NaryOp.TheVariants.{Least, Greatest, Sum, Count, And, Or}

abbrev pub rule_of_nary : NaryOp → NumberRule
rule_of_nary Least = least
rule_of_nary Greatest = greatest
rule_of_nary Sum = sum
rule_of_nary Count = count
rule_of_nary And = and
rule_of_nary Or = or

abbrev pub nary_number : NaryOp → ℕ
nary_number Least = 0
nary_number Greatest = 1
nary_number Sum = 2
nary_number Count = 3
nary_number And = 4
nary_number Or = 5
