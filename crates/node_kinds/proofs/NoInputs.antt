-- A list without inputs has no changes.
use Rattle.std.proofs.Common.{ℕ, ◌≡◌, List, [], ◌∷◌, slice_get, Some, refl, arith}
use Rattle.std.proofs.lemmas.Option.{slice_get_within}
use Rattle.cbl_base.specs.Changes.{AreChanges, after_changes}
use Rattle.cbl_base.specs.declared.input.Input.{Input}
use Rattle.cbl_base.specs.declared.input.Input.TheVariants.{Int}
use Rattle.cbl_base.specs.declared.input.Change.{Change}
use Rattle.cbl_base.specs.declared.input.Change.TheVariants.{Int as IntChange, Set as SetChange}

none_at : (place : ℕ) (x : Input) → slice_get [] place ≡ Some x → ⊥
none_at place x e = let lt = slice_get_within {A = Input} [] place x e in omega arith

pub no_changes : (cs : List Change) → AreChanges [] cs → after_changes [] cs ≡ []
no_changes [] h = refl
no_changes (IntChange place old new ∷ cs) h = absurd (none_at place (Int old) h.0)
no_changes (SetChange place added removed ∷ cs) h = absurd h.0
