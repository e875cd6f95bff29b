-- What a part gives, or that it halts the run, goes on to what stands behind it.
use Rattle.std.proofs.Common.{◌≡◌, refl, ap, subst}
use Rattle.comet_meaning.specs.State.{State, Left}
use Rattle.comet_meaning.specs.Outcome.{Outcome, Went, Halted, Halt, Act, then_do}
use Rattle.comet_meaning.specs.Onward.{GoesOn}

pub then_give : {A : Type 0} (o : Outcome A) → then_do o (λ x s. Went x s) ≡ o
then_give (Went x s) = refl
then_give (Halted h t) = refl

pub then_then : {A B C : Type 0} (o : Outcome A) (f : A → Act B) (g : B → Act C) → then_do (then_do o f) g ≡ then_do o (λ x s. then_do (f x s) g)
then_then (Went x s) f g = refl
then_then (Halted h t) f g = refl

pub went_then : {A B : Type 0} {o : Outcome A} {x : A} {s : State} (f : A → Act B) → o ≡ Went x s → then_do o f ≡ f x s
went_then f e = ap (λ o. then_do o f) e

-- what halts a part halts the whole
pub halted_then : {A B : Type 0} {o : Outcome A} {h : Halt} {t : Left} (f : A → Act B) → o ≡ Halted h t → then_do o f ≡ Halted h t
halted_then f e = ap (λ o. then_do o f) e

-- what holds of a part's outcome holds of the whole's, whatever goes onward behind it
abbrev pub Passes : ((A : Type 0) → Outcome A → Type 0) → Type 1
Passes P = (A B : Type 0) (o : Outcome A) (f : A → Act B) → ((x : A) → GoesOn (f x)) → P A o → P B (then_do o f)

pub passes_to : {A B : Type 0} {w : Outcome B} (P : (A : Type 0) → Outcome A → Type 0) → Passes P → (o : Outcome A) (f : A → Act B) → then_do o f ≡ w → ((x : A) → GoesOn (f x)) → P A o → P B w
passes_to {A} {B} P through o f e k h = subst (P B) e (through A B o f k h)
