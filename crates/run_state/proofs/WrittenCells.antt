-- Writing the cell of a name: one that is there, the next one, and one that is further on.
use Rattle.std.proofs.Common.{◌≡◌, ℕ, zero, suc, ◌<◌, List, [], ◌∷◌, ◌++◌, length, map, set, refl, sym, ◌∙◌, ap, arith}
use Rattle.std.proofs.lemmas.List.{length-map, map-set, map-append}
use Rattle.comet_meaning.specs.Values.{Value, Nothing}
use Rattle.comet_meaning.specs.Cells.{with_cell}
use Rattle.run_values.specs.Views.{value_seen}
use Rattle.run_values.specs.declared.values.Value.{Value as declared}

pub with_cell_there : (i : ℕ) (v : Value) (xs : List Value) → i < length xs → with_cell i v xs ≡ set xs i v
with_cell_there zero v [] h = absurd (omega arith)
with_cell_there zero v (x ∷ xs) h = refl
with_cell_there (suc i) v [] h = absurd (omega arith)
with_cell_there (suc i) v (x ∷ xs) h = ap (λ ys. x ∷ ys) (with_cell_there i v xs (omega arith))

pub with_cell_next : (i : ℕ) (v : Value) (xs : List Value) → length xs ≡ i → with_cell i v xs ≡ xs ++ v ∷ []
with_cell_next zero v [] h = refl
with_cell_next zero v (x ∷ xs) h = absurd (omega arith)
with_cell_next (suc i) v [] h = absurd (omega arith)
with_cell_next (suc i) v (x ∷ xs) h = ap (λ ys. x ∷ ys) (with_cell_next i v xs (omega arith))

pub with_cell_further : (i : ℕ) (v : Value) (xs : List Value) → length xs < i → with_cell i v (xs ++ Nothing ∷ []) ≡ with_cell i v xs
with_cell_further zero v xs h = absurd (omega arith)
with_cell_further (suc i) v [] h = refl
with_cell_further (suc i) v (x ∷ xs) h = ap (λ ys. x ∷ ys) (with_cell_further i v xs (omega arith))

-- the same of values as the code has them

pub seen_there : (i : ℕ) (x : declared) (xs : List declared) → i < length xs → with_cell i (value_seen x) (map value_seen xs) ≡ map value_seen (set xs i x)
seen_there i x xs h = with_cell_there i (value_seen x) (map value_seen xs) (omega (arith, length-map xs value_seen)) ∙ sym (map-set value_seen xs i x)

pub seen_next : (i : ℕ) (x : declared) (xs : List declared) → length xs ≡ i → with_cell i (value_seen x) (map value_seen xs) ≡ map value_seen (xs ++ x ∷ [])
seen_next i x xs h = with_cell_next i (value_seen x) (map value_seen xs) (length-map xs value_seen ∙ h) ∙ sym (map-append value_seen xs (x ∷ []))

pub seen_further : (i : ℕ) (v : Value) (x : declared) (xs : List declared) → value_seen x ≡ Nothing → length xs < i → with_cell i v (map value_seen (xs ++ x ∷ [])) ≡ with_cell i v (map value_seen xs)
seen_further i v x xs none h =
    rw (map-append value_seen xs (x ∷ []), none) (with_cell_further i v (map value_seen xs) (omega (arith, length-map xs value_seen)))
