-- The operators between two numbers: arithmetic is exact where the result fits 64 bits signed, and an overflow else.
-- From the language.
use Rattle.std.specs.Prelude.{ℤ, pos, ◌+ℤ◌, ◌-ℤ◌, ◌*ℤ◌, Bool, not, int_lt, int_le, Result, Ok}
use Rattle.std.specs.Ordering.{int_eq}
use Rattle.cbl_base.specs.Arithmetic.{exact, quotient, remainder}
use Rattle.cbl_base.specs.declared.faults.RunFault.{RunFault}
use Rattle.comet_syntax.specs.declared.tree.expressions.ChainOperator.{ChainOperator}
use Rattle.comet_syntax.specs.declared.tree.expressions.ChainOperator.TheVariants as chains
use Rattle.comet_syntax.specs.declared.tree.expressions.Comparison.{Comparison}
use Rattle.comet_syntax.specs.declared.tree.expressions.Comparison.TheVariants as comparisons

-- division goes toward zero, and the remainder has the dividend's sign; `||` and `&&` are no arithmetic
abbrev pub result_of : ChainOperator → ℤ → ℤ → Result ℤ RunFault
result_of chains.Add a b = exact (a +ℤ b)
result_of chains.Subtract a b = exact (a -ℤ b)
result_of chains.Multiply a b = exact (a *ℤ b)
result_of chains.Divide a b = quotient a b
result_of chains.Remainder a b = remainder a b
result_of o a b = Ok (pos 0)

abbrev pub holds : Comparison → ℤ → ℤ → Bool
holds comparisons.Equal a b = int_eq a b
holds comparisons.NotEqual a b = not (int_eq a b)
holds comparisons.Less a b = int_lt a b
holds comparisons.LessEqual a b = int_le a b
holds comparisons.Greater a b = int_lt b a
holds comparisons.GreaterEqual a b = int_le b a
