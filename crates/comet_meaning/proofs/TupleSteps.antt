-- A loop over the tuples of generators keeps what is still to be done: from here it is the whole. Each step keeps it, and
-- where a part of a step halts the run the whole halts it.
use Rattle.std.proofs.Common.{◌≡◌, sym, subst, ◌∙◌, refl, ℤ, Bool, true, false, List, [], ◌∷◌, ◌++◌, Some, None}
use Rattle.cbl_base.specs.declared.place.Place.{Place}
use Rattle.checked_tree.specs.declared.expressions.Slot.{Slot}
use Rattle.checked_tree.specs.Shape as shapes
use Rattle.checked_tree.specs.Shape.{Shape}
use Rattle.comet_meaning.specs.Values.{Value, Number}
use Rattle.comet_meaning.specs.State.{State, Left, left}
use Rattle.comet_meaning.specs.Outcome.{Outcome, Went, Halted, Halt, Act, then_do, ◌>>=◌, give, charge}
use Rattle.comet_meaning.specs.Cells.{put}
use Rattle.comet_meaning.specs.Levels.{Level}
use Rattle.comet_meaning.specs.Parts.{value}
use Rattle.comet_meaning.specs.Generators.{Bound, bind, generated, each_tuple}
use Rattle.comet_meaning.specs.Odometer.{Pending, Numbers, Members, next_of, each_pending, Opened, opened, advanced, known_at, one_value, begun, rest_of}
use Rattle.comet_meaning.specs.Onward.{IsOnward, left_by, GoesOn}
use Rattle.comet_meaning.proofs.GoingOn.{goes_then, goes_give, goes_each_of, goes_each_from}
use Rattle.comet_meaning.proofs.GoingParts.{LevelGoesOn, goes_value, goes_generated, goes_each_tuple}
use Rattle.comet_meaning.proofs.Endings.{then_then, went_then, halted_then, Passes, passes_to}
use Rattle.comet_meaning.proofs.Tuples.{begun_first, tuples_start, rest_of_none, rest_closes, rest_is_over, rest_visits, rest_opens}

-- what comes behind the names of a value

-- the visit of a tuple, and then the rest
abbrev pub visiting : {A : Type 0} → Level → Place → (A → Bool) → (ℤ → A → Act A) → Opened → List Opened → ℤ → A → Act A
visiting l at more visit o os v x = visit v x >>= rest_of l at more visit (advanced o ∷ os)

-- the next generator's domain, and then the rest, with that generator on top
abbrev pub opening : {A : Type 0} → Level → Place → (A → Bool) → (ℤ → A → Act A) → Place → Slot → Shape → List Shape → Opened → List Opened → ℤ → A → Act A
opening l at more visit place slot domain gs o os v x = value l domain >>= λ d. rest_of l at more visit (opened (known_at o v) place slot gs d ∷ advanced o ∷ os) x

-- what is left goes onward

pub goes_pending : {A : Type 0} (more : A → Bool) (f : ℤ → A → Act A) (p : Pending) (x : A) → ((v : ℤ) (y : A) → GoesOn (f v y)) → GoesOn (each_pending more f p x)
goes_pending more f (Numbers v n) x k = goes_each_from more f v n x k
goes_pending more f (Members vs) x k = goes_each_of more f vs x k

goes_one_value : {A : Type 0} (l : Level) → LevelGoesOn l → (at : Place) (more : A → Bool) (visit : ℤ → A → Act A) (place : Place) (known : List Bound) (gs : List Shape) (v : ℤ) (x : A) → ((v : ℤ) (y : A) → GoesOn (visit v y)) → GoesOn (one_value l at more visit place known gs v x)
goes_one_value l h at more visit place known [] v x k = goes_generated at known (k v x)
goes_one_value l h at more visit place known (g ∷ gs) v x k = goes_generated place known (goes_each_tuple l h at more visit known (g ∷ gs) x k)

pub goes_rest : {A : Type 0} (l : Level) → LevelGoesOn l → (at : Place) (more : A → Bool) (visit : ℤ → A → Act A) (os : List Opened) (x : A) → ((v : ℤ) (y : A) → GoesOn (visit v y)) → GoesOn (rest_of l at more visit os x)
unfolding rest_of
goes_rest l h at more visit [] x k = goes_give
goes_rest l h at more visit (o ∷ os) x k =
    goes_then (goes_pending more _ o.pending x (λ v y. goes_one_value l h at more visit o.place (known_at o v) o.later v y k)) (λ y. goes_rest l h at more visit os y k)

pub goes_visiting : {A : Type 0} (l : Level) → LevelGoesOn l → (at : Place) (more : A → Bool) (visit : ℤ → A → Act A) (o : Opened) (os : List Opened) (v : ℤ) (x : A) → ((v : ℤ) (y : A) → GoesOn (visit v y)) → GoesOn (visiting l at more visit o os v x)
goes_visiting l h at more visit o os v x k = goes_then (k v x) (λ y. goes_rest l h at more visit (advanced o ∷ os) y k)

pub goes_opening : {A : Type 0} (l : Level) → LevelGoesOn l → (at : Place) (more : A → Bool) (visit : ℤ → A → Act A) (place : Place) (slot : Slot) (domain : Shape) (gs : List Shape) (o : Opened) (os : List Opened) (v : ℤ) (x : A) → ((v : ℤ) (y : A) → GoesOn (visit v y)) → GoesOn (opening l at more visit place slot domain gs o os v x)
goes_opening l h at more visit place slot domain gs o os v x k =
    goes_then (goes_value l h domain) (λ d. goes_rest l h at more visit (opened (known_at o v) place slot gs d ∷ advanced o ∷ os) x k)

-- names behind others

pub bind_append : (known more : List Bound) (s : State) → bind (known ++ more) s ≡ then_do (bind known s) (λ _. bind more)
unfolding bind
bind_append [] more s = refl
bind_append (b ∷ bs) more s =
    (λ k. then_do (put b.slot (Number b.value) s) (λ _ t. bind_append bs more t k))
    ∙ sym (then_then (put b.slot (Number b.value) s) (λ _. bind bs) (λ _. bind more))

-- how a value begins

module _ (at : Place) (known : List Bound) (s : State) where
  pub begun_went : {t u : State} → charge 1 at s ≡ Went tt t → bind known t ≡ Went tt u → begun at known s ≡ Went tt u
  unfolding generated
  begun_went c b = went_then _ c ∙ went_then _ b

  pub begun_halts : {h : Halt} {r : Left} → charge 1 at s ≡ Halted h r → begun at known s ≡ Halted h r
  unfolding generated
  begun_halts c = halted_then _ c

  -- it ended at a name
  pub begun_err : {t : State} → (P : (A : Type 0) → Outcome A → Type 0) → Passes P → charge 1 at s ≡ Went tt t → P (Unit {0}) (bind known t) → P (Unit {0}) (begun at known s)
  unfolding generated
  begun_err {t} P through c e =
      passes_to P through (bind known t) (λ _. give tt) (sym (went_then (λ _ t. then_do (bind known t) (λ _. give tt)) c)) (λ _. goes_give) e

pub goes_begun : (at : Place) (known : List Bound) → GoesOn (begun at known)
goes_begun at known = goes_generated at known goes_give

-- what is still to be done from here is the whole
pub record Remains {A : Type 0} (l : Level) (at : Place) (more : A → Bool) (visit : ℤ → A → Act A) (os : List Opened) (x : A) (s : State) (w : Outcome A) : Type 0 where
  pub rest : rest_of l at more visit os x s ≡ w

-- the start: the first generator's domain gave a value, or halted the run

module _ {A : Type 0} (l : Level) (at : Place) (more : A → Bool) (visit : ℤ → A → Act A) (known : List Bound) (place : Place) (slot : Slot) (domain : Shape) (gs : List Shape) (x : A) (s : State) where
  pub starts : {d : Value} {t : State} → value l domain s ≡ Went d t → Remains l at more visit (opened known place slot gs d ∷ []) x t (each_tuple l at more visit known (shapes.generator place slot domain ∷ gs) x s)
  starts e = record { rest = sym (tuples_start l at more visit known place slot domain gs x s ∙ went_then _ e) }

  pub start_halts : {h : Halt} {t : Left} → value l domain s ≡ Halted h t → each_tuple l at more visit known (shapes.generator place slot domain ∷ gs) x s ≡ Halted h t
  start_halts e = tuples_start l at more visit known place slot domain gs x s ∙ halted_then _ e

  pub start_err : (P : (A : Type 0) → Outcome A → Type 0) → Passes P → LevelGoesOn l → ((v : ℤ) (y : A) → GoesOn (visit v y)) → P Value (value l domain s) → P A (each_tuple l at more visit known (shapes.generator place slot domain ∷ gs) x s)
  start_err P through k goes e =
      passes_to P through _ _ (sym (tuples_start l at more visit known place slot domain gs x s)) (λ d. goes_rest l k at more visit (opened known place slot gs d ∷ []) x goes) e

module _ {A : Type 0} {l : Level} {at : Place} {more : A → Bool} {visit : ℤ → A → Act A} {x : A} {s : State} {w : Outcome A} where
  -- no generator is open
  pub all_closed : Remains l at more visit [] x s w → w ≡ Went x s
  all_closed m = sym m.rest ∙ rest_of_none l at more visit x s

  -- the top has no more values
  pub closes : {o : Opened} {os : List Opened} → Remains l at more visit (o ∷ os) x s w → next_of o.pending ≡ None → Remains l at more visit os x s w
  closes {o} {os} m e = record { rest = sym (rest_closes l at more visit o os x s e) ∙ m.rest }

  -- what was made doesn't go on
  pub is_over : {os : List Opened} → Remains l at more visit os x s w → more x ≡ false → w ≡ Went x s
  is_over {os} m e = sym m.rest ∙ rest_is_over l at more visit os x s e

  -- where there is no more memory, what is left goes onward
  pub remains_onward : {os : List Opened} → LevelGoesOn l → ((v : ℤ) (y : A) → GoesOn (visit v y)) → Remains l at more visit os x s w → IsOnward (left s) (left_by w)
  remains_onward {os} k goes m = subst (λ o. IsOnward (left s) (left_by o)) m.rest ((goes_rest l k at more visit os x goes).from s)

-- a value of the last generator

module _ {A : Type 0} {l : Level} {at : Place} {more : A → Bool} {visit : ℤ → A → Act A} {o : Opened} {os : List Opened} {x : A} {s : State} {w : Outcome A} (v : ℤ) (m : Remains l at more visit (o ∷ os) x s w) (on : more x ≡ true) (next : next_of o.pending ≡ Some v) (last : o.later ≡ []) where
  pub visit_from : then_do (begun at (known_at o v) s) (λ _. visiting l at more visit o os v x) ≡ w
  visit_from = begun_first at (known_at o v) (visiting l at more visit o os v x) s ∙ sym (rest_visits l at more visit o os v x s on next last) ∙ m.rest

  pub visit_begin_halts : {h : Halt} {t : Left} → begun at (known_at o v) s ≡ Halted h t → w ≡ Halted h t
  visit_begin_halts e = sym visit_from ∙ halted_then _ e

  pub visit_begin_err : (P : (A : Type 0) → Outcome A → Type 0) → Passes P → LevelGoesOn l → ((v : ℤ) (y : A) → GoesOn (visit v y)) → P (Unit {0}) (begun at (known_at o v) s) → P A w
  visit_begin_err P through k goes e = passes_to P through _ _ visit_from (λ _. goes_visiting l k at more visit o os v x goes) e

  module _ {u : State} (b : begun at (known_at o v) s ≡ Went tt u) where
    pub visit_is_left : visiting l at more visit o os v x u ≡ w
    visit_is_left = sym (went_then _ b) ∙ visit_from

    pub visits : {r : State} {y : A} → visit v x u ≡ Went y r → Remains l at more visit (advanced o ∷ os) y r w
    visits e = record { rest = sym (went_then _ e) ∙ visit_is_left }

    pub visit_halts : {h : Halt} {r : Left} → visit v x u ≡ Halted h r → w ≡ Halted h r
    visit_halts e = sym visit_is_left ∙ halted_then _ e

    pub visit_err : (P : (A : Type 0) → Outcome A → Type 0) → Passes P → LevelGoesOn l → ((v : ℤ) (y : A) → GoesOn (visit v y)) → P A (visit v x u) → P A w
    visit_err P through k goes e = passes_to P through _ _ visit_is_left (λ y. goes_rest l k at more visit (advanced o ∷ os) y goes) e

-- a value of another generator

module _ {A : Type 0} {l : Level} {at : Place} {more : A → Bool} {visit : ℤ → A → Act A} {o : Opened} {os : List Opened} {x : A} {s : State} {w : Outcome A} {place : Place} {slot : Slot} {domain : Shape} {gs : List Shape} (v : ℤ) (m : Remains l at more visit (o ∷ os) x s w) (on : more x ≡ true) (next : next_of o.pending ≡ Some v) (behind : o.later ≡ shapes.generator place slot domain ∷ gs) where
  pub open_from : then_do (begun o.place (known_at o v) s) (λ _. opening l at more visit place slot domain gs o os v x) ≡ w
  open_from =
      begun_first o.place (known_at o v) (opening l at more visit place slot domain gs o os v x) s
      ∙ sym (rest_opens l at more visit o os v x s place slot domain gs on next behind)
      ∙ m.rest

  pub open_begin_halts : {h : Halt} {t : Left} → begun o.place (known_at o v) s ≡ Halted h t → w ≡ Halted h t
  open_begin_halts e = sym open_from ∙ halted_then _ e

  pub open_begin_err : (P : (A : Type 0) → Outcome A → Type 0) → Passes P → LevelGoesOn l → ((v : ℤ) (y : A) → GoesOn (visit v y)) → P (Unit {0}) (begun o.place (known_at o v) s) → P A w
  open_begin_err P through k goes e = passes_to P through _ _ open_from (λ _. goes_opening l k at more visit place slot domain gs o os v x goes) e

  module _ {u : State} (b : begun o.place (known_at o v) s ≡ Went tt u) where
    pub open_is_left : opening l at more visit place slot domain gs o os v x u ≡ w
    open_is_left = sym (went_then _ b) ∙ open_from

    pub opens : {r : State} {d : Value} → value l domain u ≡ Went d r → Remains l at more visit (opened (known_at o v) place slot gs d ∷ advanced o ∷ os) x r w
    opens e = record { rest = sym (went_then _ e) ∙ open_is_left }

    pub open_halts : {h : Halt} {r : Left} → value l domain u ≡ Halted h r → w ≡ Halted h r
    open_halts e = sym open_is_left ∙ halted_then _ e

    pub open_err : (P : (A : Type 0) → Outcome A → Type 0) → Passes P → LevelGoesOn l → ((v : ℤ) (y : A) → GoesOn (visit v y)) → P Value (value l domain u) → P A w
    open_err P through k goes e =
        passes_to P through _ _ open_is_left (λ d. goes_rest l k at more visit (opened (known_at o v) place slot gs d ∷ advanced o ∷ os) x goes) e
