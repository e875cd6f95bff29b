-- What checking knows: the names that are visible, in order of declaration; the signatures of the functions; what the
-- function that is being checked has done so far; and the incremental variables that terms have named so far. A part
-- of a program either goes, with a value and what is known then, or is refused at a place for a cause. A rule of this
-- project.
use Rattle.std.specs.Prelude.{ℕ, Bool, List, [], ◌∷◌, ◌++◌}
use Rattle.cbl_base.specs.declared.place.Place.{Place}
use Rattle.checked_tree.specs.declared.stop.Cause.{Cause}
use Rattle.checked_tree.specs.declared.expressions.Slot.{Slot}
use Rattle.type_scopes.specs.declared.names.Binding.{Binding}
use Rattle.type_scopes.specs.declared.effects.Effects.{Effects}
use Rattle.type_scopes.specs.declared.effects.Signature.{Signature}

-- what checking knows
pub record State : Type 0 where
  pub names : List Binding
  pub signatures : List Signature
  pub effects : Effects
  pub terms : List Slot

-- what checking a part comes to
pub data Outcome (A : Type 0) : Type 0 where
  Went : A → State → Outcome A
  Refused : Place → Cause → Outcome A

-- checking a part
abbrev pub Check : Type 0 → Type 0
Check A = State → Outcome A

-- where a part goes, the next one is checked; a refusal stays
abbrev pub then_do : {A B : Type 0} → Outcome A → (A → Check B) → Outcome B
then_do (Went x s) f = f x s
then_do (Refused place cause) f = Refused place cause

-- one part, and then the next with what the first made
infixl 10 ◌>>=◌
abbrev pub ◌>>=◌ : {A B : Type 0} → Check A → (A → Check B) → Check B
m >>= f = λ s. then_do (m s) f

-- it goes, and nothing more is known than before
abbrev pub give : {A : Type 0} → A → Check A
give x = λ s. Went x s

-- it is refused there for this cause, whatever is known
abbrev pub refuse : {A : Type 0} → Place → Cause → Check A
refuse place cause = λ s. Refused place cause

-- a list's items one after the other, each with what those before it made
abbrev pub each : {A X : Type 0} → (X → A → Check X) → List A → X → Check X
each step [] x = give x
each step (a ∷ as') x = step x a >>= each step as'
