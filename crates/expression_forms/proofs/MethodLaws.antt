-- What a method asks of its arguments, one after the other.
use Rattle.std.proofs.Common.{◌≡◌, refl, sym, subst, ap, ◌∙◌, ℕ, ◌+◌, ◌-◌, ◌<◌, ◌≤◌, List, [], ◌∷◌, ◌++◌, map, length, drop, get_or, Bool, if◌then◌else◌, arith}
use Rattle.std.specs.Prelude.{nat_lt}
use Rattle.std.proofs.lemmas.Bool.{lt-ltb}
use Rattle.cbl_base.specs.declared.place.Place.{Place}
use Rattle.checked_tree.specs.declared.expressions.Method.{Method}
use Rattle.checked_tree.specs.declared.expressions.Method.TheVariants as methods
use Rattle.checked_tree.specs.declared.expressions.Typed.{Typed}
use Rattle.checked_tree.specs.Shape.{Shape}
use Rattle.comet_meaning.specs.Values.{Value}
use Rattle.comet_meaning.specs.State.{State, left}
use Rattle.comet_meaning.specs.Outcome.{Outcome, Went, then_do}
use Rattle.comet_meaning.specs.Levels.{Level}
use Rattle.comet_meaning.specs.Parts.{value}
use Rattle.comet_meaning.specs.Methods.{asked_value, asked_values, called_form, method_form, variables_asked}
use Rattle.comet_meaning.specs.Onward.{IsOnward, left_by}
use Rattle.comet_meaning.proofs.GoingParts.{LevelGoesOn}
use Rattle.comet_meaning.proofs.GoingExpressions.{goes_asked_values}
use Rattle.comet_meaning.proofs.Endings.{went_then, Passes, passes_to}
use Rattle.comet_meaning.proofs.Rows.{at_next, at_end}
use Rattle.run_values.specs.declared.values.Value.{Value as declared}
use Rattle.run_values.specs.Views.{value_seen}
use Rattle.run_steps.specs.Views.{part}
use Rattle.run_steps.proofs.Forms.{map_push}

-- a method that posts and restores nothing
pub method_called : (l : Level) (at : Place) (m : Method) (o : Shape) (es : List Shape) (s : State) → (m ≡ methods.Post → ⊥) → (m ≡ methods.PostPart → ⊥) → (m ≡ methods.Restore → ⊥) → method_form l at m o es s ≡ called_form l at m o es s
unfolding method_form
method_called l at methods.Post o es s h k r = absurd (h refl)
method_called l at methods.PostPart o es s h k r = absurd (k refl)
method_called l at methods.Restore o es s h k r = absurd (r refl)
method_called l at m o es s h k r = refl

-- a method that asks no variable itself
pub none_asked : (m : Method) → (m ≡ methods.Violations → ⊥) → (m ≡ methods.SystemAssignDelta → ⊥) → (m ≡ methods.SystemSwapDelta → ⊥) → (m ≡ methods.ObjectiveAssignDelta → ⊥) → (m ≡ methods.ObjectiveSwapDelta → ⊥) → 0 ≡ variables_asked m
none_asked methods.Violations a b c d e = absurd (a refl)
none_asked methods.SystemAssignDelta a b c d e = absurd (b refl)
none_asked methods.SystemSwapDelta a b c d e = absurd (c refl)
none_asked methods.ObjectiveAssignDelta a b c d e = absurd (d refl)
none_asked methods.ObjectiveSwapDelta a b c d e = absurd (e refl)
none_asked m a b c d e = refl

-- an argument, by whether a variable itself is asked
pub asked_read : (l : Level) (n : ℕ) (e : Shape) (s : State) → n ≡ 0 → asked_value l (nat_lt 0 n) e s ≡ value l e s
unfolding asked_value
asked_read l n e s h = ap (λ k. asked_value l (nat_lt 0 k) e s) h

pub asked_itself : (l : Level) (n : ℕ) (e : Shape) (s : State) → (n ≡ 0 → ⊥) → asked_value l (nat_lt 0 n) e s ≡ l.expr e s
unfolding asked_value
asked_itself l n e s h = ap (λ (b : Bool). (if b then l.expr e else value l e) s) (lt-ltb 0 n (omega (arith, h)))

-- the arguments that are left, of which so many are variables themselves
pub record AskedLeft {X : Type 0} (l : Level) (f : X → Shape) (xs : List X) (i n : ℕ) (vs : List Value) (s : State) (w : Outcome (List Value)) : Type 0 where
  pub left : asked_values l n (map f (drop i xs)) vs s ≡ w

pub asked_start : {X : Type 0} (l : Level) (f : X → Shape) (xs : List X) (n : ℕ) (es : List Shape) (s : State) → es ≡ map f xs → AskedLeft l f xs 0 n [] s (asked_values l n es [] s)
asked_start l f xs n es s e = record { left = ap (λ ys. asked_values l n ys [] s) (sym e) }

module _ {X : Type 0} {l : Level} {f : X → Shape} {xs : List X} {i n : ℕ} {vs : List Value} {s : State} {w : Outcome (List Value)} (m : AskedLeft l f xs i n vs s w) where
  pub asked_end : length xs ≤ i → w ≡ Went vs s
  unfolding asked_values
  asked_end h = sym m.left ∙ at_end (λ ys. asked_values l n ys vs s) f xs i h

  pub asked_onward : LevelGoesOn l → IsOnward (left s) (left_by w)
  asked_onward k = subst (λ o. IsOnward (left s) (left_by o)) m.left ((goes_asked_values l k n (map f (drop i xs)) vs).from s)

  module _ (x : X) (h : i < length xs) (is : x ≡ get_or xs i x) where
    pub asked_at : then_do (asked_value l (nat_lt 0 n) (f x) s) (λ v. asked_values l (n - 1) (map f (drop (i + 1) xs)) (vs ++ v ∷ [])) ≡ w
    unfolding asked_values
    asked_at = sym (at_next (λ ys. asked_values l n ys vs s) f xs i x h is) ∙ m.left

    pub asked_step : {v : Value} {t : State} → asked_value l (nat_lt 0 n) (f x) s ≡ Went v t → AskedLeft l f xs (i + 1) (n - 1) (vs ++ v ∷ []) t w
    asked_step e = record { left = sym (went_then _ e) ∙ asked_at }

    pub asked_err : (P : (A : Type 0) → Outcome A → Type 0) → Passes P → LevelGoesOn l → P Value (asked_value l (nat_lt 0 n) (f x) s) → P (List Value) w
    asked_err P through k e = passes_to P through _ _ asked_at (λ v. goes_asked_values l k _ _ _) e

-- one more value
pub asked_pushed : (l : Level) (es : List Typed) (i n m : ℕ) (xs ys : List declared) (y : declared) (s : State) (w : Outcome (List Value)) → ys ≡ xs ++ y ∷ [] → m ≡ n → AskedLeft l part es i n (map value_seen xs ++ value_seen y ∷ []) s w → AskedLeft l part es i m (map value_seen ys) s w
asked_pushed l es i n m xs ys y s w e h a =
    subst (λ k. AskedLeft l part es i k (map value_seen ys) s w) (sym h)
    (subst (λ vs. AskedLeft l part es i n vs s w) (sym (ap (map value_seen) e ∙ map_push value_seen xs y)) a)
