-- What a part that goes shows of its own parts, and that it goes where they do.
use Rattle.std.specs.Prelude.{◌≡◌, refl, Ok, Err}
use Rattle.std.proofs.Common.{ap, subst, ◌∙◌}
use Rattle.cbl_base.specs.declared.place.Place.{Place}
use Rattle.checked_tree.specs.Shape.{Shape, Seen}
use Rattle.type_rules.specs.declared.kinds.Note.{Note}
use Rattle.type_rules.specs.Rules.{Ruling}
use Rattle.type_scopes.specs.State.{State, Outcome, Went, Refused, Check, then_do, ◌>>=◌}
use Rattle.type_calls.specs.Arguments.{made}
use Rattle.typing.specs.Calls.{ruled}

-- from what is known first, a part goes, with this value and what is known then
pub record Goes {A : Type 0} (m : Check A) (s : State) (x : A) (t : State) : Type 0 where
  pub is : m s ≡ Went x t

-- where one part and then the next go, what the first made and what was known between them
pub record Between {A B : Type 0} (m : Check A) (f : A → Check B) (s : State) (y : B) (t : State) : Type 0 where
  pub made : A
  pub known : State
  pub first : Goes m s made known
  pub next : Goes (f made) known y t

between_at : {A B : Type 0} (m : Check A) (f : A → Check B) (s : State) (y : B) (t : State) (o : Outcome A) → m s ≡ o → then_do o f ≡ Went y t → Between m f s y t
between_at m f s y t (Went x u) first h = record { made = x; known = u; first = record { is = first }; next = record { is = h } }
between_at m f s y t (Refused place c) first h = absurd (cc)

pub between : {A B : Type 0} (m : Check A) (f : A → Check B) (s : State) (y : B) (t : State) → Goes (m >>= f) s y t → Between m f s y t
between m f s y t h = between_at m f s y t (m s) refl h.is

pub goes_on : {A B : Type 0} (m : Check A) (f : A → Check B) {s u t : State} {x : A} {y : B} → Goes m s x u → Goes (f x) u y t → Goes (m >>= f) s y t
goes_on m f first next = record { is = ap (λ o. then_do o f) first.is ∙ next.is }

pub goes_as : {A : Type 0} {m k : Check A} {s t : State} {x : A} → m ≡ k → Goes m s x t → Goes k s x t
goes_as {A} {m} {k} {s} {t} {x} is h = subst (λ (n : Check A). Goes n s x t) is h

pub went_value : {A : Type 0} (x y : A) (s t : State) → Went x s ≡ Went y t → x ≡ y
went_value x y s t h = cc

pub went_state : {A : Type 0} (x y : A) (s t : State) → Went x s ≡ Went y t → s ≡ t
went_state x y s t h = cc

-- where an expression is made, its rule gives a note
pub record IsRuled (start place : Place) (shape : Shape) (r : Ruling) (s : State) (x : Seen) (t : State) : Type 0 where
  pub note : Note
  pub rule : r ≡ Ok note
  pub value : ruled start place shape note ≡ x
  pub state : s ≡ t

ruled_at : (start place : Place) (shape : Shape) (r q : Ruling) (s t : State) (x : Seen) → r ≡ q → made start place shape q s ≡ Went x t → IsRuled start place shape r s x t
ruled_at start place shape r (Ok n) s t x is h = record { note = n; rule = is; value = went_value _ _ _ _ h; state = went_state _ _ _ _ h }
ruled_at start place shape r (Err c) s t x is h = absurd (cc)

pub by_rule : (start place : Place) (shape : Shape) (r : Ruling) (s t : State) (x : Seen) → Goes (made start place shape r) s x t → IsRuled start place shape r s x t
by_rule start place shape r s t x h = ruled_at start place shape r r s t x refl h.is

pub is_made : (start place : Place) (shape : Shape) (r : Ruling) (n : Note) (s : State) → r ≡ Ok n → Goes (made start place shape r) s (ruled start place shape n) s
is_made start place shape r n s is = record { is = ap (λ q. made start place shape q s) is }
