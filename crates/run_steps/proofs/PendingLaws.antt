-- The values that an open generator has left, one after the other.
use Rattle.std.proofs.Common.{◌≡◌, inr, refl, ap, arith, ℕ, zero, suc, ◌≤◌, ℤ, pos, ◌+ℤ◌, ◌-ℤ◌, ◌<ℤ◌, ◌≤ℤ◌, nat_abs, List, [], ◌∷◌, drop, None}
use Rattle.std.specs.Prelude.{slice_get, if◌then◌else◌}
use Rattle.std.proofs.lemmas.Int.{ints}
use Rattle.cbl_base.proofs.SetLemmas.{int_lt-true, int_lt-false}
use Rattle.comet_meaning.specs.Values.{Bounds, Range, size_of}
use Rattle.comet_meaning.specs.Odometer.{Numbers, Members, pending_of, next_of, behind_next}
use Rattle.run_steps.specs.OpenTuples.{SameLeft}

-- members

pub member_next : (xs : List ℤ) (i : ℕ) → slice_get xs i ≡ next_of (Members (drop i xs))
member_next [] zero = refl
member_next [] (suc i) = refl
member_next (x ∷ xs) zero = refl
member_next (x ∷ xs) (suc i) = member_next xs i

-- numbers

size_none : (b : Bounds) → b.up <ℤ b.low → size_of b ≡ 0
size_none b h = ap (λ t. if t then 0 else suc (nat_abs (b.up -ℤ b.low))) (int_lt-true b.up b.low h)

size_some : (b : Bounds) → (b.up <ℤ b.low → ⊥) → size_of b ≡ suc (nat_abs (b.up -ℤ b.low))
size_some b h = ap (λ t. if t then 0 else suc (nat_abs (b.up -ℤ b.low))) (int_lt-false b.up b.low h)

few_left : (v : ℤ) (n : ℕ) → n ≤ 1 → next_of (behind_next (Numbers v n)) ≡ None
few_left v zero h = refl
few_left v (suc zero) h = refl
few_left v (suc (suc n)) h = absurd (omega (arith, h))

few : (b : Bounds) → b.up ≤ℤ b.low → size_of b ≤ 1
few b h = grind (arith, ints)

pub none_behind : (b : Bounds) → b.up ≤ℤ b.low → SameLeft (behind_next (pending_of (Range b))) (Members [])
none_behind b h = inr (few_left b.low (size_of b) (few b h), refl)

one_less : (low up : ℤ) → low <ℤ up → nat_abs (up -ℤ low) ≡ suc (nat_abs (up -ℤ (low +ℤ pos 1)))
one_less low up h = grind (arith, ints)
