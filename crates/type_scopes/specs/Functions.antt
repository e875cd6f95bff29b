-- What is known of functions. From the language.
use Rattle.std.specs.Prelude.{ℕ, Bool, true, List, [], ◌∷◌, ◌++◌, slice_get, slice_set, Option, Some, None}
use Rattle.type_scopes.specs.declared.effects.Effects.{Effects}
use Rattle.type_scopes.specs.declared.effects.Signature.{Signature}
use Rattle.type_scopes.specs.Effects.{no_effects, same_effects}
use Rattle.type_scopes.specs.State.{State, Outcome, Went, Refused, Check}

-- before the first part
abbrev pub nothing_known : State
nothing_known = record { names = []; signatures = []; effects = no_effects 0; terms = [] }

-- a function is learnt
abbrev pub learn : Signature → Check (Unit {0})
learn g s = Went tt (record s { signatures = s.signatures ++ g ∷ [] })

-- a body of a function with so many parameters begins: it has done nothing yet
abbrev pub begin : ℕ → Check (Unit {0})
begin n s = Went tt (record s { effects = no_effects n })

-- whether the function, if there is one, has these effects
abbrev same_as : Effects → Option Signature → Bool
same_as e None = true
same_as e (Some g) = same_effects g.effects e

-- whether the function is known to do just what its body did
abbrev pub is_settled : ℕ → State → Bool
is_settled f s = same_as s.effects (slice_get s.signatures f)

-- the signatures, where this function, if there is one, gets these effects
abbrev pub settled_in : List Signature → ℕ → Effects → Option Signature → List Signature
settled_in gs f e None = gs
settled_in gs f e (Some g) = slice_set gs f (record g { effects = e })

-- the function does what its body did
abbrev pub settle : ℕ → Check (Unit {0})
settle f s = Went tt (record s { signatures = settled_in s.signatures f s.effects (slice_get s.signatures f); effects = no_effects 0 })
