-- What is allowed, one thing after the other, and what `act_on` does.
use Rattle.std.specs.Prelude.{◌≡◌, refl, ℕ, zero, suc, Bool, true, false, ◌&&◌, ◌||◌, ◌<◌, nat_lt, List, [], ◌∷◌, length, slice_get, slice_set, Option, None, Some, if◌then◌else◌}
use Rattle.std.specs.List.{list_any}
use Rattle.std.proofs.Common.{sym, ap, subst, ◌∙◌, arith}
use Rattle.std.proofs.lemmas.Bool.{ltb-false}
use Rattle.cbl_base.specs.declared.place.Place.{Place}
use Rattle.checked_tree.specs.declared.stop.Cause.{Cause}
use Rattle.checked_tree.specs.declared.stop.Cause.TheVariants as cause
use Rattle.checked_tree.specs.declared.expressions.Slot.{Slot}
use Rattle.checked_tree.specs.declared.expressions.Slot.TheVariants.{Global, Local}
use Rattle.type_rules.specs.Rules.{is_pure}
use Rattle.type_scopes.specs.declared.effects.Doing.{Doing}
use Rattle.type_scopes.specs.declared.effects.Effects.{Effects}
use Rattle.type_scopes.specs.declared.scope.Scope.{Scope}
use Rattle.type_scopes.specs.Effects.{is_global, marked, all_marked, with_doing}
use Rattle.type_scopes.specs.Names.{is_outside, is_outside_of}
use Rattle.type_scopes.specs.State.{State, Outcome, Went, Refused, Check, give, refuse, then_do, ◌>>=◌, each}
use Rattle.type_calls.specs.Doing.{act_on, done, doing_fault, is_there}
use Rattle.type_laws.specs.Behaves.{IsAllowed, Behaves}

pub nothing_done : (scope : Scope) (e : Effects) → IsAllowed scope e e
nothing_done scope e = record {
  pure = λ h. refl;
  inside = λ outer h. record { no_global = refl; no_parameter = λ j low. refl; allowed = refl };
}

pub same_done : (scope : Scope) (old new : Effects) → new ≡ old → IsAllowed scope old new
same_done scope old new e = subst (IsAllowed scope old) (sym e) (nothing_done scope old)

pub one_then_other : (scope : Scope) (a b c : Effects) → IsAllowed scope a b → IsAllowed scope b c → IsAllowed scope a c
one_then_other scope a b c f g = record {
  pure = λ h. g.pure h ∙ f.pure h;
  inside = λ outer h. record {
    no_global = (g.inside outer h).no_global ∙ (f.inside outer h).no_global;
    no_parameter = λ j low. (g.inside outer h).no_parameter j low ∙ (f.inside outer h).no_parameter j low;
    allowed = (g.inside outer h).allowed ∙ (f.inside outer h).allowed;
  };
}

then_at : {A B : Type 0} (scope : Scope) (o : Outcome A) (f : A → Check B) (e : Effects) (y : B) (t : State)
    → ((x : A) (s : State) → o ≡ Went x s → IsAllowed scope e s.effects) → ((x : A) → Behaves scope (f x)) → then_do o f ≡ Went y t → IsAllowed scope e t.effects
then_at scope (Went x s) f e y t first next h = one_then_other scope e s.effects t.effects (first x s refl) (next x s y t h)
then_at scope (Refused place c) f e y t first next h = absurd (cc)

pub behaves_then : {A B : Type 0} (scope : Scope) (m : Check A) (f : A → Check B) → Behaves scope m → ((x : A) → Behaves scope (f x)) → Behaves scope (m >>= f)
behaves_then scope m f first next s y t h = then_at scope (m s) f s.effects y t (λ x u g. first s x u g) next h

went_state : {A : Type 0} (x y : A) (s t : State) → Went x s ≡ Went y t → t.effects ≡ s.effects
went_state x y s t h = let same : s ≡ t = cc in ap (λ (z : State). z.effects) (sym same)

pub behaves_give : {A : Type 0} (scope : Scope) (x : A) → Behaves scope (give x)
behaves_give scope x s y t h = same_done scope s.effects t.effects (went_state x y s t h)

-- what only changes the rest of what is known
pub behaves_known : {A : Type 0} (scope : Scope) (x : A) (f : State → State) → ((s : State) → (f s).effects ≡ s.effects) → Behaves scope (λ s. Went x (f s))
behaves_known scope x f keeps s y t h = same_done scope s.effects t.effects (went_state x y (f s) t h ∙ keeps s)

pub behaves_refuse : {A : Type 0} (scope : Scope) (place : Place) (c : Cause) → Behaves {A = A} scope (refuse place c)
behaves_refuse scope place c s x t h = absurd (cc)

pub behaves_at : {A : Type 0} (scope : Scope) (g : State → Check A) → ((u : State) → Behaves scope (g u)) → Behaves scope (λ s. g s s)
behaves_at scope g h s x t e = h s s x t e

abbrev pub AllOf : {A : Type 0} → (A → Type 0) → List A → Type 0
AllOf P [] = Unit {0}
AllOf P (a ∷ as') = P a × AllOf P as'

pub behaves_each : {A X : Type 0} (scope : Scope) (step : X → A → Check X) (items : List A) → AllOf (λ a. (x : X) → Behaves scope (step x a)) items → (x : X) → Behaves scope (each step items x)
behaves_each scope step [] h x = behaves_give scope x
behaves_each scope step (a ∷ items) h x = behaves_then scope (step x a) (each step items) (h.0 x) (λ y. behaves_each scope step items h.1 y)

-- a part elsewhere, where no more is allowed
pub behaves_where : {A : Type 0} (scope inner : Scope) (m : Check A) → inner.parall ≡ scope.parall → (is_pure scope.context ≡ true → is_pure inner.context ≡ true) → Behaves inner m → Behaves scope m
behaves_where scope inner m same pure h s x t e = record {
  pure = λ p. (h s x t e).pure (pure p);
  inside = λ outer q. (h s x t e).inside outer (same ∙ q);
}

-- acts

pub record IsFree (scope : Scope) (d : Doing) (roots : List Slot) : Type 0 where
  pub impure : d.impure && is_pure scope.context ≡ false
  pub outer : (is_there scope.parall && d.global) || list_any (is_outside scope) roots ≡ false
  pub forbidden : is_there scope.parall && d.forbidden ≡ false

free_at : (a b c d : Bool) → (if a then Some cause.NotPure else (if b then Some cause.NotInTerm else (if c then Some cause.WritesOuter else (if d then Some cause.NotInParall else None)))) ≡ None
    → (a ≡ false) × (c ≡ false) × (d ≡ false)
free_at true b c d h = absurd (cc)
free_at false true c d h = absurd (cc)
free_at false false true d h = absurd (cc)
free_at false false false true h = absurd (cc)
free_at false false false false h = (refl, refl, refl)

free : (scope : Scope) (d : Doing) (roots : List Slot) → doing_fault scope d roots ≡ None → IsFree scope d roots
free scope d roots h =
    let f = free_at (d.impure && is_pure scope.context) d.not_in_term ((is_there scope.parall && d.global) || list_any (is_outside scope) roots) (is_there scope.parall && d.forbidden) h in
    record { impure = f.0; outer = f.1; forbidden = f.2 }

and_true : (a b : Bool) → a && b ≡ false → b ≡ true → a ≡ false
and_true true b h e = absurd (cc)
and_true false b h e = refl

true_and : (a b : Bool) → a && b ≡ false → a ≡ true → b ≡ false
true_and true b h e = h
true_and false b h e = absurd (cc)

or_first : (a b : Bool) → a || b ≡ false → a ≡ false
or_first true b h = absurd (cc)
or_first false b h = refl

or_second : (a b : Bool) → a || b ≡ false → b ≡ false
or_second true b h = absurd (cc)
or_second false b h = h

or_none : (a b : Bool) → b ≡ false → a || b ≡ a
or_none true b e = refl
or_none false b e = e

outside_at : {P : Type 0} (o : Option ℕ) (outer i : ℕ) → o ≡ Some outer → is_outside_of o (Global i) ≡ false → P
outside_at None outer i p h = absurd (cc)
outside_at (Some n) outer i p h = absurd (cc)

both_false : (a b : Bool) → a ≡ false → b ≡ false → a || b ≡ false
both_false true b h e = absurd (cc)
both_false false b h e = e

global_outside : (scope : Scope) (outer : ℕ) (s : Slot) → scope.parall ≡ Some outer → is_outside scope s ≡ false → is_global s ≡ false
global_outside scope outer (Global i) p h = outside_at scope.parall outer i p h
global_outside scope outer (Local j) p h = refl

none_global : (scope : Scope) (outer : ℕ) (roots : List Slot) → scope.parall ≡ Some outer → list_any (is_outside scope) roots ≡ false → list_any is_global roots ≡ false
none_global scope outer [] p h = refl
none_global scope outer (s ∷ ss) p h =
    both_false (is_global s) (list_any is_global ss)
    (global_outside scope outer s p (or_first (is_outside scope s) (list_any (is_outside scope) ss) h))
    (none_global scope outer ss p (or_second (is_outside scope s) (list_any (is_outside scope) ss) h))

local_at : (o : Option ℕ) (outer j : ℕ) → o ≡ Some outer → is_outside_of o (Local j) ≡ false → nat_lt j outer ≡ false
local_at None outer j p h = absurd (cc)
local_at (Some n) outer j p h = let same : n ≡ outer = cc in subst (λ k. nat_lt j k ≡ false) same h

set_elsewhere : (flags : List Bool) (k j : ℕ) (b : Bool) → j < k → slice_get (slice_set flags k b) j ≡ slice_get flags j
set_elsewhere [] zero j b low = absurd (omega (arith, low))
set_elsewhere [] (suc k) j b low = refl
set_elsewhere (f ∷ fs) zero j b low = absurd (omega (arith, low))
set_elsewhere (f ∷ fs) (suc k) zero b low = refl
set_elsewhere (f ∷ fs) (suc k) (suc j) b low = set_elsewhere fs k j b (omega (arith, low))

set_if : (t : Bool) (flags : List Bool) (k j : ℕ) → j < k → slice_get (if t then slice_set flags k true else flags) j ≡ slice_get flags j
set_if true flags k j low = set_elsewhere flags k j true low
set_if false flags k j low = refl

not_below : (k outer j : ℕ) → nat_lt k outer ≡ false → j < outer → j < k
not_below k outer j h low = omega (arith, ltb-false k outer h, low)

mark_inside : (scope : Scope) (outer : ℕ) (s : Slot) (flags : List Bool) (j : ℕ) → scope.parall ≡ Some outer → is_outside scope s ≡ false → j < outer
    → slice_get (marked s flags) j ≡ slice_get flags j
mark_inside scope outer (Global i) flags j p h low = refl
mark_inside scope outer (Local k) flags j p h low = set_if (nat_lt k (length flags)) flags k j (not_below k outer j (local_at scope.parall outer k p h) low)

marks_inside : (scope : Scope) (outer : ℕ) (roots : List Slot) (flags : List Bool) (j : ℕ) → scope.parall ≡ Some outer → list_any (is_outside scope) roots ≡ false → j < outer
    → slice_get (all_marked roots flags) j ≡ slice_get flags j
marks_inside scope outer [] flags j p h low = refl
marks_inside scope outer (s ∷ ss) flags j p h low =
    marks_inside scope outer ss (marked s flags) j p (or_second (is_outside scope s) (list_any (is_outside scope) ss) h) low
    ∙ mark_inside scope outer s flags j p (or_first (is_outside scope s) (list_any (is_outside scope) ss) h) low

marks_if : (through : Bool) (scope : Scope) (outer : ℕ) (roots : List Slot) (flags : List Bool) (j : ℕ) → scope.parall ≡ Some outer → list_any (is_outside scope) roots ≡ false → j < outer
    → slice_get (if through then all_marked roots flags else flags) j ≡ slice_get flags j
marks_if true scope outer roots flags j p h low = marks_inside scope outer roots flags j p h low
marks_if false scope outer roots flags j p h low = refl

in_one : (scope : Scope) (outer : ℕ) → scope.parall ≡ Some outer → is_there scope.parall ≡ true
in_one scope outer p = ap is_there p

act_allowed : (scope : Scope) (d : Doing) (roots : List Slot) (e : Effects) → IsFree scope d roots → IsAllowed scope e (with_doing d roots e)
act_allowed scope d roots e f = record {
  pure = λ h. or_none e.impure d.impure (and_true d.impure (is_pure scope.context) f.impure h);
  inside = λ outer p.
      let roots_inside = or_second (is_there scope.parall && d.global) (list_any (is_outside scope) roots) f.outer in
      let none = true_and (is_there scope.parall) d.global (or_first (is_there scope.parall && d.global) (list_any (is_outside scope) roots) f.outer) (in_one scope outer p) in record {
        no_global = or_none e.writes_global (d.global || list_any is_global roots) (both_false d.global (list_any is_global roots) none (none_global scope outer roots p roots_inside));
        no_parameter = λ j low. marks_if d.through scope outer roots e.written j p roots_inside low;
        allowed = or_none e.forbidden d.forbidden (true_and (is_there scope.parall) d.forbidden f.forbidden (in_one scope outer p));
      };
}

done_at : (scope : Scope) (place : Place) (o : Option Cause) (d : Doing) (roots : List Slot) → (o ≡ None → IsFree scope d roots) → Behaves scope (done place o d roots)
done_at scope place (Some c) d roots f s x t h = absurd (cc)
done_at scope place None d roots f s x t h =
    subst (IsAllowed scope s.effects) (sym (went_state tt x (record s { effects = with_doing d roots s.effects }) t h)) (act_allowed scope d roots s.effects (f refl))

pub behaves_act : (scope : Scope) (place : Place) (d : Doing) (roots : List Slot) → Behaves scope (act_on place scope d roots)
unfolding act_on
behaves_act scope place d roots = done_at scope place (doing_fault scope d roots) d roots (free scope d roots)

-- an act that goes is free

free_done : (scope : Scope) (place : Place) (o : Option Cause) (d : Doing) (roots : List Slot) (s t : State) (x : Unit {0}) → (o ≡ None → IsFree scope d roots) → done place o d roots s ≡ Went x t → IsFree scope d roots
free_done scope place (Some c) d roots s t x f h = absurd (cc)
free_done scope place None d roots s t x f h = f refl

pub act_free : (scope : Scope) (place : Place) (d : Doing) (roots : List Slot) (s t : State) (x : Unit {0}) → act_on place scope d roots s ≡ Went x t → IsFree scope d roots
unfolding act_on
act_free scope place d roots s t x h = free_done scope place (doing_fault scope d roots) d roots s t x (free scope d roots) h

-- what a part that goes shows, and what follows where it is known

first_at : {A B : Type 0} (P : Type 0) (o : Outcome A) (f : A → Check B) (y : B) (t : State) → ((x : A) (s : State) → o ≡ Went x s → P) → then_do o f ≡ Went y t → P
first_at P (Went x s) f y t shows h = shows x s refl
first_at P (Refused place c) f y t shows h = absurd (cc)

pub shows_first : {A B : Type 0} (P : Type 0) (m : Check A) (f : A → Check B) → ((s : State) (x : A) (t : State) → m s ≡ Went x t → P) → (s : State) (y : B) (t : State) → (m >>= f) s ≡ Went y t → P
shows_first P m f shows s y t h = first_at P (m s) f y t (λ x u g. shows s x u g) h

second_at : {A B : Type 0} (P : Type 0) (o : Outcome A) (f : A → Check B) (y : B) (t : State) → ((x : A) (s : State) → f x s ≡ Went y t → P) → then_do o f ≡ Went y t → P
second_at P (Went x s) f y t shows h = shows x s h
second_at P (Refused place c) f y t shows h = absurd (cc)

pub shows_second : {A B : Type 0} (P : Type 0) (m : Check A) (f : A → Check B) → ((x : A) (s : State) (y : B) (t : State) → f x s ≡ Went y t → P) → (s : State) (y : B) (t : State) → (m >>= f) s ≡ Went y t → P
shows_second P m f shows s y t h = second_at P (m s) f y t (λ x u g. shows x u y t g) h

with_at : {A B : Type 0} (P : Type 0) (scope : Scope) (o : Outcome A) (f : A → Check B) (e : Effects) (y : B) (t : State)
    → ((x : A) (s : State) → o ≡ Went x s → IsAllowed scope e s.effects) → ((x : A) (s : State) → o ≡ Went x s → P) → (P → (x : A) → Behaves scope (f x)) → then_do o f ≡ Went y t → IsAllowed scope e t.effects
with_at P scope (Went x s) f e y t first shows next h = one_then_other scope e s.effects t.effects (first x s refl) (next (shows x s refl) x s y t h)
with_at P scope (Refused place c) f e y t first shows next h = absurd (cc)

pub behaves_with : {A B : Type 0} (P : Type 0) (scope : Scope) (m : Check A) (f : A → Check B) → Behaves scope m → ((s : State) (x : A) (t : State) → m s ≡ Went x t → P) → (P → (x : A) → Behaves scope (f x)) → Behaves scope (m >>= f)
behaves_with P scope m f first shows next s y t h = with_at P scope (m s) f s.effects y t (λ x u g. first s x u g) (λ x u g. shows s x u g) next h
