-- Whole arithmetic is exact: the result over the whole numbers where it fits 64 bits signed, and an
-- overflow else. Division goes toward zero, the remainder has the dividend's sign, and a divisor of 0
-- is a fault of its own. A rule of this project.
use Rattle.std.specs.Prelude.{ℤ, pos, negsuc, ◌^◌, Bool, nat_lt, Result, Ok, Err, if◌then◌else◌, int_div, int_rem}
use Rattle.std.specs.Ordering.{int_eq}
use Rattle.cbl_base.specs.declared.faults.RunFault.{RunFault}
use Rattle.cbl_base.specs.declared.faults.RunFault.TheVariants.{Overflow, DivideByZero}

-- whether a number fits 64 bits signed: `negsuc n` is the number -1 - n
abbrev pub fits_64 : ℤ → Bool
fits_64 (pos n) = nat_lt n (2 ^ 63)
fits_64 (negsuc n) = nat_lt n (2 ^ 63)

-- the number where it fits, and an overflow else
abbrev pub exact : ℤ → Result ℤ RunFault
exact z = if fits_64 z then Ok z else Err Overflow

-- the quotient toward zero, and the rest: `a` is `b` times the quotient and the rest
abbrev pub quotient : ℤ → ℤ → Result ℤ RunFault
quotient a b = if int_eq b (pos 0) then Err DivideByZero else exact (int_div a b)

abbrev pub remainder : ℤ → ℤ → Result ℤ RunFault
remainder a b = if int_eq b (pos 0) then Err DivideByZero else exact (int_rem a b)
