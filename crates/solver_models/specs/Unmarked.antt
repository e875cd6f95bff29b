-- The places below a number that have no mark: of the marks that a solver keeps, those of its free variables.
use Rattle.std.specs.Prelude.{ℕ, ℤ, Bool, not, List, [], ◌∷◌, ◌++◌, Option, Some, None, filter, length}
use Rattle.std.specs.List.{range_with_len}
use Rattle.cbl_base.specs.declared.ids.VarId.{VarId}
use Rattle.solver_models.specs.Kept.{mark_at}

abbrev pub unmarked_below : List Bool → ℕ → List ℕ
unmarked_below marks n = filter (λ i. not (mark_at marks i)) (range_with_len 0 n)

abbrev pub unmarked : List Bool → List ℕ
unmarked marks = unmarked_below marks (length marks)

-- moves with one more, where there is a value for it
abbrev pub with_move : List (VarId × ℤ) → VarId → Option ℤ → List (VarId × ℤ)
with_move moves x None = moves
with_move moves x (Some value) = moves ++ (x, value) ∷ []

-- numbers with one more, where there is one
abbrev pub with_number : List ℤ → Option ℤ → List ℤ
with_number numbers None = numbers
with_number numbers (Some number) = numbers ++ number ∷ []

-- the id of the variable at a place of the solver with a number
abbrev pub id_in : ℕ → ℕ → VarId
id_in solver i = record { solver = solver; index = i }
