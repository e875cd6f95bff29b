-- Cells of an array of terms, and the operation of its indices.
use Rattle.std.proofs.Common.{◌≡◌, ◌∙◌, refl, sym, ap, ℕ, zero, suc, ◌<◌, ◌≤◌, List, [], ◌∷◌, length, Option, Some, None, arith}
use Rattle.std.specs.Prelude.{slice_index_or, option_map}
use Rattle.cbl_operations.specs.declared.op.Op.{Op}
use Rattle.term_model.specs.declared.term.Term.{Term}
use Rattle.comet_meaning.specs.TermForms.{grid_op}
use Rattle.comet_meaning.specs.Values as values
use Rattle.run_values.specs.Views.{bounds_seen}
use Rattle.run_values.specs.declared.values.Bounds.{Bounds}
use Rattle.term_nodes.specs.Steps.{plane_op}

-- an element that is there, whatever stands for one that isn't
pub same_at : {X : Type 0} (xs : List X) (k : ℕ) (d e : X) → k < length xs → slice_index_or xs k d ≡ slice_index_or xs k e
same_at [] k d e h = absurd (omega (arith, h))
same_at (x ∷ xs) zero d e h = refl
same_at (x ∷ xs) (suc k) d e h = same_at xs k d e (omega (arith, h))

-- and one that isn't there
pub past_at : {X : Type 0} (xs : List X) (k : ℕ) (d : X) → length xs ≤ k → slice_index_or xs k d ≡ d
past_at [] k d h = refl
past_at (x ∷ xs) zero d h = absurd (omega (arith, h))
past_at (x ∷ xs) (suc k) d h = past_at xs k d (omega (arith, h))

plane_same : (rows columns : values.Bounds) (ts : List Term) → grid_op rows (Some columns) ts ≡ plane_op rows columns (length ts)
plane_same rows columns [] = refl
plane_same rows columns (t ∷ ts) = refl

-- the operation of the indices of an array with columns
pub grid_as : (rows : values.Bounds) (columns : Bounds) (ts : List Term) (n : ℕ) (all : Option Bounds) → n ≡ length ts → all ≡ Some columns → grid_op rows (option_map bounds_seen all) ts ≡ plane_op rows (bounds_seen columns) n
grid_as rows columns ts n all h e =
    ap (λ (c : Option Bounds). grid_op rows (option_map bounds_seen c) ts) e
    ∙ plane_same rows (bounds_seen columns) ts
    ∙ ap (λ m. plane_op rows (bounds_seen columns) m) (sym h)
