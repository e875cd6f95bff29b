-- The products of members and weights, where those that fit 64 bits are added up and the others are
-- counted. A rule of this project.
use Rattle.std.specs.Prelude.{◌≡◌, ℕ, ℤ, pos, neg_ℤ, ◌≤ℤ◌, ◌^◌, ◌+◌, ◌-◌, List, Result, Ok, Err, nat_lt, if◌then◌else◌, sum_by}
use Rattle.std.specs.Result.{result_unwrap_or}
use Rattle.cbl_base.specs.Arithmetic.{exact}
use Rattle.cbl_base.specs.Totals.{total_by}
use Rattle.cbl_base.specs.declared.faults.RunFault.{RunFault}
use Rattle.cbl_violations.specs.Fitting.{each_below}
use Rattle.cbl_violations.specs.Violations.WeightedTotal.{weighted_member}
use Rattle.diff_comb.specs.declared.weighted_total.Products.{Products}

-- what a product adds to the total, and whether it is one that doesn't fit
abbrev pub part : ℤ → ℤ
part z = result_unwrap_or (exact z) (pos 0)

abbrev pub one_if_fault : Result ℤ RunFault → ℕ
one_if_fault (Ok z) = 0
one_if_fault (Err fault) = 1

abbrev pub misfit : ℤ → ℕ
misfit z = one_if_fault (exact z)

-- the products of so many members, of which the weights stand behind them
abbrev pub products_of : ℕ → List ℤ → List ℤ
products_of members inputs = each_below members (weighted_member members inputs)

-- these are the total and the count of the products
pub record AreTotals (products : Products) (zs : List ℤ) : Type 0 where
  pub fitting : products.fitting ≡ total_by part zs
  pub unfit : products.unfit ≡ sum_by misfit zs

-- the place of the other factor of a product
abbrev pub other_place : ℕ → ℕ → ℕ
other_place members place = if nat_lt place members then place + members else place - members

-- the number has 126 bits at most
pub record IsSmall (z : ℤ) : Type 0 where
  pub low : neg_ℤ (pos (2 ^ 125)) ≤ℤ z
  pub high : z ≤ℤ pos (2 ^ 125)
