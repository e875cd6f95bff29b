-- Counts of faults over several reads.
use Rattle.std.proofs.Common.{◌≡◌, ◌≢◌, ◌≤◌, ℕ, Bool, true, false, List, bytes_eq, refl, sym, ◌∙◌, inl, inr, arith}
use Rattle.std.proofs.lemmas.Slice.Eq.{bytes_eq-Decides}
use Rattle.cbl_io.specs.Faults.{HasRisen}

not_both : {t : Bool} → t ≡ true → t ≡ false → ⊥
not_both a b = let e : true ≡ false = sym a ∙ b in absurd cc

-- one read lets no count fall
pub never_falls : (name : List ℕ) (old new : List ℕ → ℕ) → old name ≤ new name → ((other : List ℕ) → other ≢ name → new other ≡ old other) → (other : List ℕ) → old other ≤ new other
never_falls name old new here elsewhere other = by_test (bytes_eq other name) refl
  where
    by_test : (t : Bool) → bytes_eq other name ≡ t → old other ≤ new other
    by_test true h = let same : other ≡ name = (bytes_eq-Decides other name).0 h in rw same here
    by_test false h = let kept : new other ≡ old other = elsewhere other (λ same. not_both ((bytes_eq-Decides other name).1 same) h) in omega (arith, kept)

-- what has risen since later has risen since before
pub risen_before : (old middle new : ℕ) → old ≤ middle → HasRisen middle new → HasRisen old new
risen_before old middle new low (inl more) = inl (omega (arith, low, more))
risen_before old middle new low (inr last) = inr last
