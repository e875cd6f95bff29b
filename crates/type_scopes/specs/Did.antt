-- What it means that a function did what the definition says.
use Rattle.std.specs.Prelude.{◌≡◌, Result, Ok, Err}
use Rattle.checked_tree.specs.declared.stop.Stop.{Stop}
use Rattle.checked_tree.specs.declared.stop.Stop.TheVariants.{Fault, NoMemory}
use Rattle.type_scopes.specs.State.{State, Outcome, Went, Refused}

-- unless memory ran out, it is refused so
abbrev pub Ended : {A : Type 0} → Stop → Outcome A → Type 0
Ended (Fault place cause) o = o ≡ Refused place cause
Ended NoMemory o = Unit {0}

-- the result and what is known are those of the outcome
abbrev pub Did : {X A : Type 0} → (X → A) → Result X Stop → State → Outcome A → Type 0
Did view (Ok x) s o = o ≡ Went (view x) s
Did view (Err stop) s o = Ended stop o
