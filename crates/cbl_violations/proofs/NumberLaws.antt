-- Where a number is a value, it is that number.
use Rattle.std.proofs.Common.{◌≡◌, Bool, true, false, cond, List, refl, Ok, Err}
use Rattle.std.specs.Prelude.{ℤ}
use Rattle.cbl_base.specs.Arithmetic.{exact, fits_64}
use Rattle.cbl_violations.specs.Fitting.{where_all_fit}
use Rattle.std.specs.List.{list_all}
use Rattle.cbl_base.specs.declared.faults.RunFault.{RunFault}

-- a number that is exact is that number
pub cond_ok : (b : Bool) (y z : ℤ) (fault : RunFault) → cond b (Ok y) (Err fault) ≡ Ok z → (b ≡ true) × (y ≡ z)
cond_ok true y z fault e = (refl, cc e)
cond_ok false y z fault e = cc e

pub value_is : (parts : List ℤ) (y z : ℤ) → where_all_fit parts y ≡ Ok z → y ≡ z
value_is parts y z e = (cond_ok (list_all fits_64 parts) y z _ e).1

pub exact_is : (y z : ℤ) → exact y ≡ Ok z → y ≡ z
exact_is y z e = (cond_ok (fits_64 y) y z _ e).1
