-- An assignment to a name of a number.
use Rattle.std.proofs.Common.{◌≡◌, ◌∙◌, ap, refl, subst}
use Rattle.std.specs.Prelude.{Result}
use Rattle.cbl_base.specs.declared.place.Place.{Place}
use Rattle.checked_tree.specs.Shape.{Seen, whole}
use Rattle.checked_tree.specs.declared.expressions.Slot.{Slot}
use Rattle.checked_tree.specs.declared.kind.Kind.TheVariants as kinds
use Rattle.comet_meaning.specs.Levels.{Level, Name}
use Rattle.comet_meaning.specs.Outcome.{Act, Outcome, Went, Halted, then_do, ◌>>=◌, give}
use Rattle.comet_meaning.specs.Events.{behind_commit}
use Rattle.comet_meaning.specs.Parts.{value}
use Rattle.comet_meaning.specs.State.{State}
use Rattle.comet_meaning.specs.Values.{Value, as_kind}
use Rattle.comet_meaning.specs.Writes.{assign_form, write}
use Rattle.run_steps.specs.Does.{Does}
use Rattle.run_steps.specs.Following.{Follows}
use Rattle.run_values.specs.declared.stop.Stop.{Stop}

-- one after another, in either grouping
grouped : {A B C : Type 0} (o : Outcome A) (f : A → Act B) (g : B → Act C) → then_do (then_do o f) g ≡ then_do o (λ x. f x >>= g)
grouped (Went x t) f g = refl
grouped (Halted h t) f g = refl

-- what follows a part, and then what follows that
pub follows_both : (X Y Z A B C : Type 0) (view : X → A) (middle : Y → B) (next : Z → C) (p : Result X Stop) (q : Result Y Stop) (r : Result Z Stop) (s t u : State) (o : Outcome A) (f : A → Act B) (g : B → Act C) →
    Does view p s o → Follows view middle p q s t f → Follows middle next q r t u g → Does next r u (then_do o (λ x. f x >>= g))
follows_both X Y Z A B C view middle next p q r s t u o f g did first second = subst (Does next r u) (grouped o f g) (second (then_do o f) (first o did))

-- where nothing follows
nothing_behind : (o : Outcome (Unit {0})) → then_do o (λ _. give tt) ≡ o
nothing_behind (Went x t) = refl
nothing_behind (Halted h t) = refl

written_only : (o : Outcome Value) (f : Value → Act (Unit {0})) → then_do o (λ v. f v >>= λ _. give tt) ≡ then_do o f
written_only (Went v t) f = nothing_behind (f v t)
written_only (Halted h t) f = refl

pub assigned_number : (l : Level) (at : Place) (t e : Seen) (slot : Slot) (s : State) → t.kind ≡ kinds.Int → l.target (whole t) s ≡ Went (Name slot) s → assign_form l at t e s ≡ then_do (value l (whole e) s) (λ v. write at (Name slot) (as_kind kinds.Int v))
unfolding assign_form
assigned_number l at t e slot s k h =
    ap (λ o. then_do o (λ x. value l (whole e) >>= λ v. write at x (as_kind t.kind v) >>= λ _. behind_commit l at x)) h
    ∙ ap (λ j. then_do (value l (whole e) s) (λ v. write at (Name slot) (as_kind j v) >>= λ _. give tt)) k
    ∙ written_only (value l (whole e) s) (λ v. write at (Name slot) (as_kind kinds.Int v))
