-- The operations on two numbers, one line each: the sum, the difference and the product, an overflow where
-- it doesn't fit 64 bits; the quotient toward zero, and what it leaves, with the sign of `a`, a division by
-- zero where `b` is 0; and the relations, 1 where they hold, and 0 else. A rule of this project.
use Rattle.std.specs.Prelude.{ℕ, ℤ, ◌+ℤ◌, ◌-ℤ◌, ◌*ℤ◌, int_le, int_lt, not, Result, Ok}
use Rattle.std.specs.Ordering.{int_eq}
use Rattle.cbl_base.specs.Arithmetic.{exact, quotient, remainder}
use Rattle.cbl_base.specs.NumberRule.{NumberRule}
use Rattle.cbl_base.specs.declared.faults.RunFault.{RunFault}
use Rattle.cbl_operations.specs.Forms.{rule_of_two}
use Rattle.cbl_operations.specs.Truth.{truth}
use Rattle.cbl_operations.specs.declared.binary.BinaryOp.{BinaryOp}
use Rattle.cbl_operations.specs.declared.binary.BinaryOp.TheVariants.{Add, Sub, Mul, Div, Rem, Eq, Ne, Le, Lt}

abbrev pub binary_value : BinaryOp → ℤ → ℤ → Result ℤ RunFault
binary_value Add a b = exact (a +ℤ b)
binary_value Sub a b = exact (a -ℤ b)
binary_value Mul a b = exact (a *ℤ b)
binary_value Div a b = quotient a b
binary_value Rem a b = remainder a b
binary_value Eq a b = Ok (truth (int_eq a b))
binary_value Ne a b = Ok (truth (not (int_eq a b)))
binary_value Le a b = Ok (truth (int_le a b))
binary_value Lt a b = Ok (truth (int_lt a b))

abbrev pub rule_of_binary : BinaryOp → NumberRule
rule_of_binary op = rule_of_two (binary_value op)

-- their numbers, in order of declaration
abbrev pub binary_number : BinaryOp → ℕ
binary_number Add = 0
binary_number Sub = 1
binary_number Mul = 2
binary_number Div = 3
binary_number Rem = 4
binary_number Eq = 5
binary_number Ne = 6
binary_number Le = 7
binary_number Lt = 8
