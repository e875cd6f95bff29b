-- What a free variable comes to is its number in the assignment.
use Rattle.std.proofs.Common.{◌≡◌, ℕ, ℤ, pos, zero, suc, true, false, List, [], ◌∷◌, Some, None, length, sym, ◌∙◌, slice_get}
use Rattle.std.specs.Prelude.{slice_index_or}
use Rattle.std.specs.Option.{option_map}
use Rattle.cbl_base.specs.declared.ids.VarId.{VarId}
use Rattle.cbl_base.specs.declared.input.Input.TheVariants.{Int}
use Rattle.ls_solver.specs.Ids.{has_definition, is_own}
use Rattle.ls_solver.specs.Reading.{fresh_value}
use Rattle.ls_solver.specs.State as solvers
use Rattle.ls_solver.proofs.ReadLaws.{free_value, given_within}
use Rattle.posted_users.specs.KeptRule.{users_of}
use Rattle.run_solvers.proofs.CommitLaws.{free_defined}

number_at : (a : List ℤ) (i : ℕ) (z : ℤ) → option_map (λ y. Int y) (slice_get a i) ≡ Some (Int z) → z ≡ slice_index_or a i (pos 0)
number_at [] i z e = let c : None ≡ Some (Int z) = e in cc
number_at (y ∷ a) zero z e = let same : Some (Int y) ≡ Some (Int z) = e in cc
number_at (y ∷ a) (suc i) z e = number_at a i z e

pub free_now : (S : solvers.SolverState) (x : VarId) (z : ℤ) → is_own S x ≡ true → has_definition S.model x.index ≡ false → fresh_value S x.index ≡ Some (Int z) → z ≡ slice_index_or S.assignment x.index (pos 0)
free_now S x z own free fresh =
    number_at S.assignment x.index z (sym (free_value (users_of S.rules) S.model S.assignment x.index (given_within S.number (length S.model.vars.items) x own) (free_defined S x.index free)) ∙ fresh)
