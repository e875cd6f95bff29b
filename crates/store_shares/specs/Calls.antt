-- What a call comes to: the parts of a system's members, each told, times the members' weights. A rule of this project.
use Rattle.std.specs.Prelude.{◌≡◌, ℕ, ℤ, pos, ◌+◌, ◌+ℤ◌, ◌*ℤ◌, ◌&&◌, Bool, true, false, List, [], ◌∷◌, Some, slice_get, Result, Ok, Err, if◌then◌else◌}
use Rattle.cbl_base.specs.Arithmetic.{exact, fits_64}
use Rattle.cbl_base.specs.declared.faults.RunFault.{RunFault}
use Rattle.cbl_base.specs.declared.faults.RunFault.TheVariants.{Overflow}
use Rattle.store_shares.specs.declared.calls.Tally.{Tally}

abbrev pub no_tally : Tally
no_tally = record { sum = pos 0; fits = true }

-- a product more, where it and all before it fit
abbrev pub with_product : Tally → ℤ → Tally
with_product tally product =
    if tally.fits && fits_64 product then record { sum = tally.sum +ℤ product; fits = true } else record { sum = tally.sum; fits = false }

-- what a list of violations comes to, each times the weight at its place
abbrev pub tally_all : Tally → List (Result ℤ RunFault) → List ℤ → Result Tally RunFault
tally_all tally [] ws = Ok tally
tally_all tally (Err fault ∷ vs) ws = Err fault
tally_all tally (Ok v ∷ vs) [] = tally_all tally vs []
tally_all tally (Ok v ∷ vs) (w ∷ ws) = tally_all (with_product tally (v *ℤ w)) vs ws

abbrev pub tallied : Result Tally RunFault → Result ℤ RunFault
tallied (Ok tally) = if tally.fits then exact tally.sum else Err Overflow
tallied (Err fault) = Err fault

-- what isn't touched is 0: the places are counted from a first one
abbrev pub AreZero : (ℕ → Bool) → ℕ → List (Result ℤ RunFault) → Type 0
AreZero touched first vs = (k : ℕ) (v : Result ℤ RunFault) → slice_get vs k ≡ Some v → touched (first + k) ≡ false → v ≡ Ok (pos 0)
