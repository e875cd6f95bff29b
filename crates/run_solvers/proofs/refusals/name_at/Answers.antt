-- A variable without a name has no byte.
use Rattle.std.proofs.Common.{◌≡◌, ℕ, zero, suc, List, [], ◌∷◌, Some, None, refl, rules, slice_get}
use Rattle.std.specs.Prelude.{slice_index_or}
use Rattle.run_solvers.proofs.refusals.name_at.Goals as goal

missing : {X : Type 0} (xs : List X) (i : ℕ) (d : X) → None ≡ slice_get xs i → slice_index_or xs i d ≡ d
missing [] zero d e = refl
missing [] (suc i) d e = refl
missing (x ∷ xs) zero d e = let c : None ≡ Some x = e in cc
missing (x ∷ xs) (suc i) d e = missing xs i d e

pub returns-in-None : goal.returns-in-None
returns-in-None c =
    let none : slice_index_or c.args.names.now c.args.variable.index [] ≡ [] = missing c.args.names.now c.args.variable.index [] c.in-None.ensures in
    rw none (search rules)
