-- A call goes where it is typed, and is typed where it goes.
use Rattle.std.specs.Prelude.{◌≡◌, refl, ℕ, Bool, true, false, ◌&&◌, List, [], slice_get, Option, None, Some, if◌then◌else◌}
use Rattle.std.proofs.Common.{ap, subst, ◌∙◌}
use Rattle.comet_syntax.specs.declared.tree.expressions.Name.{Name}
use Rattle.checked_tree.specs.declared.expressions.Builtin.{Builtin}
use Rattle.checked_tree.specs.declared.expressions.Method.{Method}
use Rattle.checked_tree.specs.declared.expressions.Slot.{Slot}
use Rattle.checked_tree.specs.declared.kind.Kind.TheVariants as kind
use Rattle.checked_tree.specs.declared.stop.Cause.{Cause}
use Rattle.checked_tree.specs.declared.stop.Cause.TheVariants as cause
use Rattle.checked_tree.specs.Shape as shapes
use Rattle.checked_tree.specs.Shape.{Shape, Seen, whole, wholes}
use Rattle.cbl_base.specs.declared.place.Place.{Place}
use Rattle.type_rules.specs.declared.rows.Writes.{Writes}
use Rattle.type_rules.specs.declared.rows.Writes.TheVariants as writes
use Rattle.type_rules.specs.Kinds.{is_same}
use Rattle.type_rules.specs.Rows.{builtin_named, method_named, method_row, method_wants}
use Rattle.type_scopes.specs.declared.effects.Doing.{Doing}
use Rattle.type_scopes.specs.declared.effects.Signature.{Signature}
use Rattle.type_scopes.specs.declared.names.Found.{Found}
use Rattle.type_scopes.specs.declared.scope.Scope.{Scope}
use Rattle.type_scopes.specs.Names.{look}
use Rattle.type_scopes.specs.State.{State, Outcome, Went, Refused, Check, give, refuse, then_do, ◌>>=◌}
use Rattle.type_calls.specs.Arguments.{arguments_fault}
use Rattle.type_calls.specs.Builtins.{builtin_called, builtin_rule}
use Rattle.type_calls.specs.Doing.{act_on, done, doing_fault}
use Rattle.type_calls.specs.Functions.{call_so, call_of, called_so, function_called, function_fault, call_doing, called_as, called}
use Rattle.type_calls.specs.Methods.{method_done, method_doing, method_made, method_called, solution_roots}
use Rattle.type_calls.specs.Roots.{roots_of, written_roots, is_name}
use Rattle.typing.specs.Calls as rules
use Rattle.typing.specs.Calls.{ruled, given, having_done, names_function, IsCalled, IsWritten, IsMethodCalled}
use Rattle.typing.proofs.Went.{Goes, by_rule, is_made, went_value, went_state}

-- what is done

pub acts : (place : Place) (scope : Scope) (d : Doing) (roots : List Slot) (s : State) → doing_fault scope d roots ≡ None → act_on place scope d roots s ≡ Went tt (having_done d roots s)
unfolding act_on
acts place scope d roots s is = ap (λ o. done place o d roots s) is

pub record Acted {B : Type 0} (scope : Scope) (d : Doing) (roots : List Slot) (s : State) (f : Unit {0} → Check B) (y : B) (t : State) : Type 0 where
  pub free : doing_fault scope d roots ≡ None
  pub next : f tt (having_done d roots s) ≡ Went y t

acted_at : {B : Type 0} (place : Place) (scope : Scope) (d : Doing) (roots : List Slot) (s : State) (f : Unit {0} → Check B) (y : B) (t : State) (o : Option Cause) → doing_fault scope d roots ≡ o → then_do (done place o d roots s) f ≡ Went y t → Acted scope d roots s f y t
acted_at place scope d roots s f y t None is h = record { free = is; next = h }
acted_at place scope d roots s f y t (Some c) is h = absurd (cc)

pub acted : {B : Type 0} (place : Place) (scope : Scope) (d : Doing) (roots : List Slot) (s : State) (f : Unit {0} → Check B) (y : B) (t : State) → then_do (act_on place scope d roots s) f ≡ Went y t → Acted scope d roots s f y t
unfolding act_on
acted place scope d roots s f y t h = acted_at place scope d roots s f y t (doing_fault scope d roots) refl h

-- calls by name, that are typed

called_value : (n : Name) (scope : Scope) (es : List Seen) (s : State) (x y : Seen) (t u : State) → x ≡ y → t ≡ u → IsCalled n scope es s x t → IsCalled n scope es s y u
called_value n scope es s x y t u is known h = subst (λ v. IsCalled n scope es s y v) known (subst (λ z. IsCalled n scope es s z t) is h)

function_goes : (n : Name) (scope : Scope) (es : List Seen) (s : State) (f : ℕ) (g : Signature) → slice_get s.signatures f ≡ Some g → function_fault g.parameters es ≡ None
    → doing_fault scope (call_doing g es) (written_roots 0 g.effects.written es) ≡ None
    → function_called n scope es f s ≡ Went (given n.place n.place g.result (shapes.call f (wholes es))) (having_done (call_doing g es) (written_roots 0 g.effects.written es) s)
unfolding function_called
function_goes n scope es s f g is suits free =
    ap (λ o. then_do (call_of n.place es o s) (λ c. called_so n scope es f c)) is
    ∙ (ap (λ o. then_do (call_so n.place g es o s) (λ c. called_so n scope es f c)) suits
    ∙ ap (λ o. then_do o (λ _. give (given n.place n.place g.result (shapes.call f (wholes es))))) (acts n.place scope (call_doing g es) (written_roots 0 g.effects.written es) s free))

no_function_goes : (n : Name) (scope : Scope) (es : List Seen) (s : State) (o : Option Found) (b : Builtin) (x : Seen) → names_function o ≡ false → ((v : Bool) → builtin_called n.place scope es v (builtin_named n.text) s ≡ Went x s) → called_as n scope es o s ≡ Went x s
no_function_goes n scope es s None b x is h = h false
no_function_goes n scope es s (Some f) b x is h = ap (λ (c : Bool). (if c then function_called n scope es f.function else builtin_called n.place scope es true (builtin_named n.text)) s) is ∙ h true

pub called_goes : (n : Name) (scope : Scope) (es : List Seen) (s : State) (x : Seen) (t : State) → IsCalled n scope es s x t → Goes (called n scope es) s x t
unfolding called
called_goes n scope es s x t (rules.a_function {f} {g} found is_function signature suits free) = record {
  is =
      ap (λ o. called_as n scope es o s) found
      ∙ (ap (λ (c : Bool). (if c then function_called n scope es f.function else builtin_called n.place scope es true (builtin_named n.text)) s) is_function
      ∙ function_goes n scope es s f.function g signature suits free);
}
called_goes n scope es s x t (rules.a_builtin {b} {note} is named rule) = record {
  is =
      no_function_goes n scope es s (look n.text s.names) b _ is
      (λ v. ap (λ o. builtin_called n.place scope es v o s) named ∙ (is_made n.place n.place (shapes.builtin b (wholes es)) _ note s rule).is);
}

-- and calls by name that go

builtin_typed : (n : Name) (scope : Scope) (es : List Seen) (s : State) (x : Seen) (t : State) (v : Bool) (b : Option Builtin) → names_function (look n.text s.names) ≡ false → builtin_named n.text ≡ b → builtin_called n.place scope es v b s ≡ Went x t → IsCalled n scope es s x t
builtin_typed n scope es s x t v None is named h = absurd (cc)
builtin_typed n scope es s x t v (Some b) is named h =
    let r = by_rule n.place n.place (shapes.builtin b (wholes es)) (builtin_rule b scope.context es) s t x (record { is = h }) in
    called_value n scope es s _ x s t r.value r.state (rules.a_builtin is named r.rule)

function_typed : (n : Name) (scope : Scope) (es : List Seen) (s : State) (x : Seen) (t : State) (f : Found) (o : Option Signature) (c : Option Cause) → look n.text s.names ≡ Some f → is_same f.kind kind.Function ≡ true
    → slice_get s.signatures f.function ≡ o → (g : Signature) → o ≡ Some g → function_fault g.parameters es ≡ c → then_do (call_so n.place g es c s) (λ k. called_so n scope es f.function k) ≡ Went x t → IsCalled n scope es s x t
function_typed n scope es s x t f o (Some c) found is_function signature g is fault h = absurd (cc)
function_typed n scope es s x t f o None found is_function signature g is fault h =
    let a = acted n.place scope (call_doing g es) (written_roots 0 g.effects.written es) s (λ _. give (given n.place n.place g.result (shapes.call f.function (wholes es)))) x t h in
    called_value n scope es s _ x _ t (went_value _ _ _ _ a.next) (went_state _ _ _ _ a.next) (rules.a_function found is_function (signature ∙ is) fault a.free)

signature_typed : (n : Name) (scope : Scope) (es : List Seen) (s : State) (x : Seen) (t : State) (f : Found) (o : Option Signature) → look n.text s.names ≡ Some f → is_same f.kind kind.Function ≡ true
    → slice_get s.signatures f.function ≡ o → then_do (call_of n.place es o s) (λ k. called_so n scope es f.function k) ≡ Went x t → IsCalled n scope es s x t
signature_typed n scope es s x t f None found is_function signature h = absurd (cc)
signature_typed n scope es s x t f (Some g) found is_function signature h = function_typed n scope es s x t f (Some g) (function_fault g.parameters es) found is_function signature g refl refl h

either_typed : (n : Name) (scope : Scope) (es : List Seen) (s : State) (x : Seen) (t : State) (f : Found) (c : Bool) → look n.text s.names ≡ Some f → is_same f.kind kind.Function ≡ c
    → (if c then function_called n scope es f.function else builtin_called n.place scope es true (builtin_named n.text)) s ≡ Went x t → IsCalled n scope es s x t
unfolding function_called
either_typed n scope es s x t f true found is h = signature_typed n scope es s x t f (slice_get s.signatures f.function) found is refl h
either_typed n scope es s x t f false found is h = builtin_typed n scope es s x t true (builtin_named n.text) (ap names_function found ∙ is) refl h

name_typed : (n : Name) (scope : Scope) (es : List Seen) (s : State) (x : Seen) (t : State) (o : Option Found) → look n.text s.names ≡ o → called_as n scope es o s ≡ Went x t → IsCalled n scope es s x t
name_typed n scope es s x t None found h = builtin_typed n scope es s x t false (builtin_named n.text) (ap names_function found) refl h
name_typed n scope es s x t (Some f) found h = either_typed n scope es s x t f (is_same f.kind kind.Function) found refl h

pub called_typed : (n : Name) (scope : Scope) (es : List Seen) (s : State) (x : Seen) (t : State) → Goes (called n scope es) s x t → IsCalled n scope es s x t
unfolding called
called_typed n scope es s x t h = name_typed n scope es s x t (look n.text s.names) refl h.is

-- methods

written_goes : (place : Place) (scope : Scope) (d : Doing) (front : Seen) (s : State) (w : Writes) (t : State) → IsWritten scope d front s w t → method_done w place scope d front s ≡ Went tt t
written_goes place scope d front s w t (rules.writes_nothing free) = acts place scope d [] s free
written_goes place scope d front s w t (rules.writes_object free) = acts place scope d (roots_of (whole front)) s free
written_goes place scope d front s w t (rules.writes_solver free) = acts place scope d (solution_roots scope s.names (whole front)) s free
written_goes place scope d front s w t (rules.writes_name named free) =
    ap (λ (c : Bool). (if c then act_on place scope (record d { through = false }) (roots_of (whole front)) else (act_on place scope d [] >>= λ _. refuse place cause.NotAssignable)) s) named
    ∙ acts place scope (record d { through = false }) (roots_of (whole front)) s free

method_typed_goes : (place : Place) (scope : Scope) (front : Seen) (es : List Seen) (s t : State) (m : Method) → arguments_fault (method_wants m) (method_row m).least es ≡ None
    → method_done (method_row m).writes place scope (method_doing (method_row m) scope front es) front s ≡ Went tt t
    → method_made place front scope es m (arguments_fault (method_wants m) (method_row m).least es) s ≡ Went (given front.start place (method_row m).result (shapes.method m (whole front) (wholes es))) t
method_typed_goes place scope front es s t m suits done_so =
    ap (λ o. method_made place front scope es m o s) suits
    ∙ ap (λ o. then_do o (λ _. give (given front.start place (method_row m).result (shapes.method m (whole front) (wholes es))))) done_so

pub method_goes : (n : Name) (scope : Scope) (front : Seen) (es : List Seen) (s : State) (x : Seen) (t : State) → IsMethodCalled n scope front es s x t → Goes (method_called n.place front scope es (method_named front.kind n.text)) s x t
unfolding method_called
method_goes n scope front es s x t (rules.a_method {m} named suits written) = record {
  is =
      ap (λ o. method_called n.place front scope es o s) named
      ∙ method_typed_goes n.place scope front es s t m suits (written_goes n.place scope _ front s _ t written);
}

pub record Did {B : Type 0} (scope : Scope) (d : Doing) (front : Seen) (s : State) (w : Writes) (f : Unit {0} → Check B) (y : B) (t : State) : Type 0 where
  pub known : State
  pub written : IsWritten scope d front s w known
  pub next : f tt known ≡ Went y t

name_did : {B : Type 0} (place : Place) (scope : Scope) (d : Doing) (front : Seen) (s : State) (f : Unit {0} → Check B) (y : B) (t : State) (c : Bool) → (is_name front.form && is_same front.kind kind.Set) ≡ c
    → then_do ((if c then act_on place scope (record d { through = false }) (roots_of (whole front)) else (act_on place scope d [] >>= λ _. refuse place cause.NotAssignable)) s) f ≡ Went y t → Did scope d front s writes.Name f y t
name_did place scope d front s f y t true is h =
    let a = acted place scope (record d { through = false }) (roots_of (whole front)) s f y t h in record { known = having_done (record d { through = false }) (roots_of (whole front)) s; written = rules.writes_name is a.free; next = a.next }
name_did place scope d front s f y t false is h = not_here (act_on place scope d [] s) h
  where
    not_here : (o : Outcome (Unit {0})) → then_do (then_do o (λ _. refuse place cause.NotAssignable)) f ≡ Went y t → Did scope d front s writes.Name f y t
    not_here (Went x u) g = absurd (cc)
    not_here (Refused p c) g = absurd (cc)

did : {B : Type 0} (place : Place) (scope : Scope) (d : Doing) (front : Seen) (s : State) (w : Writes) (f : Unit {0} → Check B) (y : B) (t : State) → then_do (method_done w place scope d front s) f ≡ Went y t → Did scope d front s w f y t
did place scope d front s writes.Nothing f y t h =
    let a = acted place scope d [] s f y t h in record { known = having_done d [] s; written = rules.writes_nothing a.free; next = a.next }
did place scope d front s writes.Object f y t h =
    let a = acted place scope d (roots_of (whole front)) s f y t h in record { known = having_done d (roots_of (whole front)) s; written = rules.writes_object a.free; next = a.next }
did place scope d front s writes.Solver f y t h =
    let a = acted place scope d (solution_roots scope s.names (whole front)) s f y t h in record { known = having_done d (solution_roots scope s.names (whole front)) s; written = rules.writes_solver a.free; next = a.next }
did place scope d front s writes.Name f y t h = name_did place scope d front s f y t (is_name front.form && is_same front.kind kind.Set) refl h

made_typed : (n : Name) (scope : Scope) (front : Seen) (es : List Seen) (s : State) (x : Seen) (t : State) (m : Method) (o : Option Cause) → method_named front.kind n.text ≡ Some m → arguments_fault (method_wants m) (method_row m).least es ≡ o
    → method_made n.place front scope es m o s ≡ Went x t → IsMethodCalled n scope front es s x t
made_typed n scope front es s x t m (Some c) named suits h = absurd (cc)
made_typed n scope front es s x t m None named suits h =
    let a = did n.place scope (method_doing (method_row m) scope front es) front s (method_row m).writes (λ _. give (given front.start n.place (method_row m).result (shapes.method m (whole front) (wholes es)))) x t h in
    subst (λ v. IsMethodCalled n scope front es s x v) (went_state _ _ _ _ a.next)
    (subst (λ z. IsMethodCalled n scope front es s z a.known) (went_value _ _ _ _ a.next) (rules.a_method named suits a.written))

some_typed : (n : Name) (scope : Scope) (front : Seen) (es : List Seen) (s : State) (x : Seen) (t : State) (o : Option Method) → method_named front.kind n.text ≡ o → method_called n.place front scope es o s ≡ Went x t → IsMethodCalled n scope front es s x t
unfolding method_called
some_typed n scope front es s x t None named h = absurd (cc)
some_typed n scope front es s x t (Some m) named h = made_typed n scope front es s x t m (arguments_fault (method_wants m) (method_row m).least es) named refl h

pub method_typed : (n : Name) (scope : Scope) (front : Seen) (es : List Seen) (s : State) (x : Seen) (t : State) → Goes (method_called n.place front scope es (method_named front.kind n.text)) s x t → IsMethodCalled n scope front es s x t
method_typed n scope front es s x t h = some_typed n scope front es s x t (method_named front.kind n.text) refl h.is
