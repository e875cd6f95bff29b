-- Differences of 64-bit numbers, computed in 128 bits.
use Rattle.std.proofs.Common.{◌≡◌, ◌∙◌, ℕ, ◌<◌, T, Fits, FitsSigned, to_z, of_z, w64, arith, refl, pos, ◌+ℤ◌, ◌-ℤ◌, ◌≤ℤ◌, ◌<ℤ◌, List, None}
use Rattle.std.specs.Prelude.{ℤ, negsuc, slice_get, unsigned_abs}
use Rattle.std.specs.Int.{w128}
use Rattle.std.proofs.lemmas.Int.{ints, to_z-of_z}
use Rattle.cbl_violations.specs.Bounds.{entry_at}

-- a number that was read in 64 bits is the number, and fits
pub read_is : (r x : ℤ) → FitsSigned w64 x → r ≡ to_z w64 (of_z w64 x) → r ≡ x
read_is r x fits e = e ∙ to_z-of_z w64 x fits

pub difference_fits : (a b : ℤ) → FitsSigned w64 a → FitsSigned w64 b → FitsSigned w128 (to_z w128 (of_z w128 a) -ℤ to_z w128 (of_z w128 b))
difference_fits a b f g = omega (arith, ints, f, g)

pub difference_is : (a b : ℤ) → FitsSigned w64 a → FitsSigned w64 b → to_z w128 (of_z w128 (to_z w128 (of_z w128 a) -ℤ to_z w128 (of_z w128 b))) ≡ (a -ℤ b)
difference_is a b f g = omega (arith, ints, f, g)

pub above_fits : (a b : ℤ) → FitsSigned w64 a → FitsSigned w64 b → FitsSigned w128 (to_z w128 (of_z w128 (to_z w128 (of_z w128 a) -ℤ to_z w128 (of_z w128 b))) +ℤ pos 1)
above_fits a b f g = let e = difference_is a b f g in omega (arith, ints, f, g)

pub above_is : (a b : ℤ) → FitsSigned w64 a → FitsSigned w64 b → to_z w128 (of_z w128 (to_z w128 (of_z w128 (to_z w128 (of_z w128 a) -ℤ to_z w128 (of_z w128 b))) +ℤ pos 1)) ≡ (a -ℤ b +ℤ pos 1)
above_is a b f g = omega (arith, ints, f, g)

-- an index below 0 has no entry
pub no_entry : (z : ℤ) (bounds : List ℤ) → z <ℤ pos 0 → None ≡ entry_at z bounds
no_entry (pos k) bounds h = absurd (omega (arith, ints))
no_entry (negsuc k) bounds h = refl

-- the entry at an index that is not below 0
pub entry_is : (z : ℤ) (bounds : List ℤ) → pos 0 ≤ℤ z → slice_get bounds (unsigned_abs z) ≡ entry_at z bounds
entry_is (pos k) bounds h = refl
entry_is (negsuc k) bounds h = absurd (omega (arith, ints))
