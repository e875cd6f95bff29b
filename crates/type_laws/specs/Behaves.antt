-- What a part does where it stands: in a pure context nothing impure, in a `parall` nothing to what lies outside it.
use Rattle.std.specs.Prelude.{◌≡◌, ℕ, true, ◌<◌, slice_get, Some}
use Rattle.type_rules.specs.Rules.{is_pure}
use Rattle.type_scopes.specs.declared.effects.Effects.{Effects}
use Rattle.type_scopes.specs.declared.scope.Scope.{Scope}
use Rattle.type_scopes.specs.State.{State, Went, Check}

-- of the names outside a `parall`, of which so many are local, none is written, and nothing forbidden is done
pub record IsInside (outer : ℕ) (old new : Effects) : Type 0 where
  pub no_global : new.writes_global ≡ old.writes_global
  pub no_parameter : (j : ℕ) → j < outer → slice_get new.written j ≡ slice_get old.written j
  pub allowed : new.forbidden ≡ old.forbidden

-- what was done before, and what is done then
pub record IsAllowed (scope : Scope) (old new : Effects) : Type 0 where
  pub pure : is_pure scope.context ≡ true → new.impure ≡ old.impure
  pub inside : (outer : ℕ) → scope.parall ≡ Some outer → IsInside outer old new

-- where the part goes, what it does is allowed
abbrev pub Behaves : {A : Type 0} → Scope → Check A → Type 0
Behaves {A} scope m = (s : State) (x : A) (t : State) → m s ≡ Went x t → IsAllowed scope s.effects t.effects
