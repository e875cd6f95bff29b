-- One place of a list is written, and the others stay.
use Rattle.std.proofs.Common.{◌≡◌, ◌≢◌, ℕ, zero, suc, ◌<◌, List, [], ◌∷◌, length, get_or, set, refl, sym, ap, ◌∙◌}
use Rattle.std.specs.Prelude.{Some, slice_get}
use Rattle.std.proofs.lemmas.Option.{get_or_from_slice_get}
use Rattle.std.proofs.lemmas.List.{get_or-set_same}

-- what was written is read there
pub written_here : {X : Type 0} (xs : List X) (i : ℕ) (v m : X) → i < length xs → slice_get (set xs i v) i ≡ Some m → m ≡ v
written_here xs i v m lt e = sym (get_or_from_slice_get (set xs i v) i m v e) ∙ get_or-set_same xs i v v lt

-- what an index read is what stands there
pub read_here : {X : Type 0} (xs : List X) (i : ℕ) (now n : X) → now ≡ get_or xs i now → slice_get xs i ≡ Some n → n ≡ now
read_here xs i now n at e = sym (get_or_from_slice_get xs i n now e) ∙ sym at

pub others_stay : {X : Type 0} (xs : List X) (i k : ℕ) (v : X) → k ≢ i → slice_get (set xs i v) k ≡ slice_get xs k
others_stay [] i k v ne = refl
others_stay (x ∷ xs) zero zero v ne = absurd (ne refl)
others_stay (x ∷ xs) zero (suc k) v ne = refl
others_stay (x ∷ xs) (suc i) zero v ne = refl
others_stay (x ∷ xs) (suc i) (suc k) v ne = others_stay xs i k v (λ e. ne (ap suc e))
