-- The operations on one number, one line each: `-a` is the number of the other sign and `abs(a)` that
-- without its sign, an overflow where it doesn't fit 64 bits; `!a` is 1 where `a` is 0, and 0 else. A rule
-- of this project.
use Rattle.std.specs.Prelude.{ℕ, ℤ, pos, neg_ℤ, unsigned_abs, not, Result, Ok}
use Rattle.cbl_base.specs.Arithmetic.{exact}
use Rattle.cbl_base.specs.NumberRule.{NumberRule}
use Rattle.cbl_base.specs.declared.faults.RunFault.{RunFault}
use Rattle.cbl_operations.specs.Forms.{rule_of_one}
use Rattle.cbl_operations.specs.Truth.{truth, is_true}
use Rattle.cbl_operations.specs.declared.unary.UnaryOp.{UnaryOp}
use Rattle.cbl_operations.specs.declared.unary.UnaryOp.TheVariants.{Neg, Abs, Not}

abbrev pub unary_value : UnaryOp → ℤ → Result ℤ RunFault
unary_value Neg a = exact (neg_ℤ a)
unary_value Abs a = exact (pos (unsigned_abs a))
unary_value Not a = Ok (truth (not (is_true a)))

abbrev pub rule_of_unary : UnaryOp → NumberRule
rule_of_unary op = rule_of_one (unary_value op)

-- their numbers, in order of declaration
abbrev pub unary_number : UnaryOp → ℕ
unary_number Neg = 0
unary_number Abs = 1
unary_number Not = 2
