-- An index of names that agrees with their list.
use Rattle.std.specs.Prelude.{◌≡◌, ℕ, List, [], ◌∷◌, ◌++◌, map}
use Rattle.type_scopes.specs.declared.names.Binding.{Binding}
use Rattle.type_scopes.specs.declared.names.Entry.{Entry}
use Rattle.type_scopes.specs.declared.latest.Latest.{Latest}
use Rattle.type_scopes.specs.Latest.{latest_at}
use Rattle.type_scopes.specs.Names.{newest}

-- the names of the entries
abbrev pub bindings_of : List Entry → List Binding
bindings_of es = map (λ e. e.binding) es

-- each entry keeps which of the names before it it hides
abbrev pub AreHidden : List Binding → List Entry → Type 0
AreHidden before [] = Unit {0}
AreHidden before (e ∷ es) = (e.hidden ≡ newest e.binding.name before) × AreHidden (before ++ e.binding ∷ []) es

-- and the index has the last name of each spelling
pub record IsIndexed (entries : List Entry) (latest : Latest) : Type 0 where
  pub hidden : AreHidden [] entries
  pub last : (name : List ℕ) → latest_at latest name ≡ newest name (bindings_of entries)
