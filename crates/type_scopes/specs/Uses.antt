-- What a slot names: the last declaration of a spelling among the visible ones.
use Rattle.std.specs.Prelude.{◌≡◌, ℕ, Bool, true, false, ◌<◌, List, slice_get, Some}
use Rattle.type_scopes.specs.declared.names.Binding.{Binding}
use Rattle.type_scopes.specs.declared.names.Found.{Found}
use Rattle.type_scopes.specs.Names.{is_named}

-- a declaration of this spelling is there, is what was found, and no later one is spelled so
pub record IsDeclaration (name : List ℕ) (names : List Binding) (f : Found) : Type 0 where
  pub binding : Binding
  pub there : slice_get names f.index ≡ Some binding
  pub named : is_named name binding ≡ true
  pub kind : f.kind ≡ binding.kind
  pub function : f.function ≡ binding.function
  pub last : (i : ℕ) (later : Binding) → f.index < i → slice_get names i ≡ Some later → is_named name later ≡ false
