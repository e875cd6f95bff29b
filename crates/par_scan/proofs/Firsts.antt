-- The numbers of the workers' first candidates.
use Rattle.std.proofs.Common.{◌≡◌, ℕ, ◌+◌, ◌*◌, ◌/◌, ◌≤◌, ap, ◌∙◌, arith}
use Rattle.std.proofs.lemmas.Nat.{le-div}
use Rattle.std.proofs.Math.Nat.{div-le_of_le-mul, div-mul-le_self, zero-div}
use Rattle.par_scan.specs.Stretches.{first_of_worker}

one_more : (worker candidates : ℕ) → (worker + 1) * candidates ≡ worker * candidates + candidates
one_more worker candidates = omega arith

pub first_rises : (candidates workers worker : ℕ) → 1 ≤ workers → first_of_worker candidates workers worker ≤ first_of_worker candidates workers (worker + 1)
first_rises candidates workers worker some =
    let low = div-mul-le_self (worker * candidates) workers in
    le-div (worker * candidates / workers) ((worker + 1) * candidates) workers some (omega (arith, low, one_more worker candidates))

times_most : (worker workers candidates : ℕ) → worker ≤ workers → worker * candidates ≤ workers * candidates
times_most worker workers candidates most = grind (arith, most)

pub first_most : (candidates workers worker : ℕ) → worker ≤ workers → first_of_worker candidates workers worker ≤ candidates
first_most candidates workers worker most = div-le_of_le-mul workers (times_most worker workers candidates most)

none : (candidates : ℕ) → 0 * candidates ≡ 0
none candidates = omega arith

pub first_of_first : (candidates workers : ℕ) → first_of_worker candidates workers 0 ≡ 0
first_of_first candidates workers = ap (λ n. n / workers) (none candidates) ∙ zero-div workers

swapped : (candidates workers : ℕ) → candidates * workers ≤ workers * candidates
swapped candidates workers = grind arith

-- there is no worker behind the last one
pub first_of_none : (candidates workers : ℕ) → 1 ≤ workers → first_of_worker candidates workers workers ≡ candidates
first_of_none candidates workers some =
    let least = le-div candidates (workers * candidates) workers some (swapped candidates workers) in
    let most = first_most candidates workers workers (omega arith) in
    omega (arith, least, most)
