-- The tuples of generators by an odometer: each step of it leaves what is still to be done.
use Rattle.std.proofs.Common.{◌≡◌, refl, sym, ap, ◌∙◌, zero, suc, ℤ, pos, ◌+ℤ◌, Bool, true, false, List, [], ◌∷◌, None, Some, if◌then◌else◌}
use Rattle.std.proofs.lemmas.Option.{none-some, same_Some}
use Rattle.cbl_base.specs.declared.place.Place.{Place}
use Rattle.checked_tree.specs.declared.expressions.Slot.{Slot}
use Rattle.checked_tree.specs.Shape as shapes
use Rattle.checked_tree.specs.Shape.{Shape}
use Rattle.comet_meaning.specs.Values.{Value, Range, Set}
use Rattle.comet_meaning.specs.State.{State}
use Rattle.comet_meaning.specs.Outcome.{Went, Act, then_do, ◌>>=◌, give, charge, each_of, each_from, each_in}
use Rattle.comet_meaning.specs.Levels.{Level}
use Rattle.comet_meaning.specs.Parts.{value}
use Rattle.comet_meaning.specs.Generators.{Bound, with_bound, bind, generated, each_tuple}
use Rattle.comet_meaning.specs.Odometer.{Pending, Numbers, Members, pending_of, next_of, behind_next, each_pending, Opened, opened, advanced, known_at, one_value, begun, rest_of}
use Rattle.comet_meaning.proofs.Endings.{then_give, then_then, went_then}

-- the values that are left

pub each_in_is : {A : Type 0} (more : A → Bool) (f : ℤ → A → Act A) (d : Value) (x : A) → each_in more f d x ≡ each_pending more f (pending_of d) x
unfolding each_in
each_in_is more f (Range b) x = refl
each_in_is more f (Set xs) x = refl
each_in_is more f v x = refl

pub pending_ends : {A : Type 0} (more : A → Bool) (f : ℤ → A → Act A) (p : Pending) (x : A) (s : State) → next_of p ≡ None → each_pending more f p x s ≡ Went x s
pending_ends more f (Numbers v zero) x s e = refl
pending_ends more f (Numbers v (suc n)) x s e = absurd (none-some v (sym e))
pending_ends more f (Members []) x s e = refl
pending_ends more f (Members (v ∷ vs)) x s e = absurd (none-some v (sym e))

pub pending_over : {A : Type 0} (more : A → Bool) (f : ℤ → A → Act A) (p : Pending) (x : A) (s : State) → more x ≡ false → each_pending more f p x s ≡ Went x s
pending_over more f (Numbers v zero) x s e = refl
pending_over more f (Numbers v (suc n)) x s e = ap (λ b. (if b then (λ t. then_do (f v x t) (each_from more f (v +ℤ pos 1) n)) else give x) s) e
pending_over more f (Members []) x s e = refl
pending_over more f (Members (v ∷ vs)) x s e = ap (λ b. (if b then (λ t. then_do (f v x t) (each_of more f vs)) else give x) s) e

pub pending_step : {A : Type 0} (more : A → Bool) (f : ℤ → A → Act A) (p : Pending) (v : ℤ) (x : A) (s : State) → more x ≡ true → next_of p ≡ Some v → each_pending more f p x s ≡ then_do (f v x s) (each_pending more f (behind_next p))
pending_step more f (Numbers w zero) v x s m e = absurd (none-some v e)
pending_step more f (Numbers w (suc n)) v x s m e =
    ap (λ b. (if b then (λ t. then_do (f w x t) (each_from more f (w +ℤ pos 1) n)) else give x) s) m
    ∙ ap (λ u. then_do (f u x s) (each_from more f (w +ℤ pos 1) n)) (same_Some w v e)
pending_step more f (Members []) v x s m e = absurd (none-some v e)
pending_step more f (Members (w ∷ ws)) v x s m e =
    ap (λ b. (if b then (λ t. then_do (f w x t) (each_of more f ws)) else give x) s) m
    ∙ ap (λ u. then_do (f u x s) (each_of more f ws)) (same_Some w v e)

-- a unit is charged, the names are bound, and then comes what is done with the value
pub generated_then : {A B : Type 0} (at : Place) (known : List Bound) (next : Act A) (f : A → Act B) (s : State) → then_do (generated at known next s) f ≡ then_do (charge 1 at s) (λ _. bind known >>= λ _. next >>= f)
unfolding generated
generated_then at known next f s =
    then_then (charge 1 at s) (λ _ t. then_do (bind known t) (λ _. next)) f
    ∙ (λ k. then_do (charge 1 at s) (λ _ t. then_then (bind known t) (λ _. next) f k))

-- the unit and the names come first
pub begun_first : {A : Type 0} (at : Place) (known : List Bound) (next : Act A) (s : State) → then_do (begun at known s) (λ _. next) ≡ then_do (charge 1 at s) (λ _. bind known >>= λ _. next)
begun_first at known next s = generated_then at known (give tt) (λ _. next) s

module _ {A : Type 0} (l : Level) (at : Place) (more : A → Bool) (visit : ℤ → A → Act A) where
  -- without generators nothing is done
  pub tuples_of_none : (known : List Bound) (x : A) (s : State) → each_tuple l at more visit known [] x s ≡ Went x s
  unfolding each_tuple
  tuples_of_none known x s = refl

  opens_alone : (known : List Bound) (place : Place) (slot : Slot) (gs : List Shape) (d : Value) (x : A) (s : State) → each_in more (λ v y. one_value l at more visit place (with_bound known slot v) gs v y) d x s ≡ rest_of l at more visit (opened known place slot gs d ∷ []) x s
  unfolding rest_of
  opens_alone known place slot gs d x s =
      ap (λ (m : Act A). m s) (each_in_is more (λ v y. one_value l at more visit place (with_bound known slot v) gs v y) d x)
      ∙ sym (then_give (each_pending more (λ v y. one_value l at more visit place (with_bound known slot v) gs v y) (pending_of d) x s))

  -- all tuples: the first generator opens
  pub tuples_start : (known : List Bound) (place : Place) (slot : Slot) (domain : Shape) (gs : List Shape) (x : A) (s : State) → each_tuple l at more visit known (shapes.generator place slot domain ∷ gs) x s ≡ then_do (value l domain s) (λ d. rest_of l at more visit (opened known place slot gs d ∷ []) x)
  unfolding each_tuple
  tuples_start known place slot domain [] x s = λ k. then_do (value l domain s) (λ d t. opens_alone known place slot [] d x t k)
  tuples_start known place slot domain (g ∷ gs) x s = λ k. then_do (value l domain s) (λ d t. opens_alone known place slot (g ∷ gs) d x t k)

  -- no generator is open: that was all
  pub rest_of_none : (x : A) (s : State) → rest_of l at more visit [] x s ≡ Went x s
  unfolding rest_of
  rest_of_none x s = refl

  -- a generator that has no more values closes
  pub rest_closes : (o : Opened) (os : List Opened) (x : A) (s : State) → next_of o.pending ≡ None → rest_of l at more visit (o ∷ os) x s ≡ rest_of l at more visit os x s
  unfolding rest_of
  rest_closes o os x s e = went_then (rest_of l at more visit os) (pending_ends more _ o.pending x s e)

  -- where what was made doesn't go on, all is over
  pub rest_is_over : (os : List Opened) (x : A) (s : State) → more x ≡ false → rest_of l at more visit os x s ≡ Went x s
  unfolding rest_of
  rest_is_over [] x s e = refl
  rest_is_over (o ∷ os) x s e = went_then (rest_of l at more visit os) (pending_over more _ o.pending x s e) ∙ rest_is_over os x s e

  -- one value, and then the rest
  rest_steps : (o : Opened) (os : List Opened) (v : ℤ) (x : A) (s : State) → more x ≡ true → next_of o.pending ≡ Some v → rest_of l at more visit (o ∷ os) x s ≡ then_do (one_value l at more visit o.place (known_at o v) o.later v x s) (rest_of l at more visit (advanced o ∷ os))
  unfolding rest_of
  rest_steps o os v x s m e =
      ap (λ w. then_do w (rest_of l at more visit os)) (pending_step more (λ v y. one_value l at more visit o.place (known_at o v) o.later v y) o.pending v x s m e)
      ∙ then_then (one_value l at more visit o.place (known_at o v) o.later v x s) _ (rest_of l at more visit os)

  -- a value of the last generator: its unit, the names, and the visit
  pub rest_visits : (o : Opened) (os : List Opened) (v : ℤ) (x : A) (s : State) → more x ≡ true → next_of o.pending ≡ Some v → o.later ≡ [] → rest_of l at more visit (o ∷ os) x s ≡ then_do (charge 1 at s) (λ _. bind (known_at o v) >>= λ _. visit v x >>= rest_of l at more visit (advanced o ∷ os))
  rest_visits o os v x s m e last =
      rest_steps o os v x s m e
      ∙ ap (λ gs. then_do (one_value l at more visit o.place (known_at o v) gs v x s) (rest_of l at more visit (advanced o ∷ os))) last
      ∙ generated_then at (known_at o v) (visit v x) (rest_of l at more visit (advanced o ∷ os)) s

  on_top : (o : Opened) (os : List Opened) (x : A) (s : State) → then_do (rest_of l at more visit (o ∷ []) x s) (rest_of l at more visit os) ≡ rest_of l at more visit (o ∷ os) x s
  unfolding rest_of
  on_top o os x s = then_then (each_pending more (λ v y. one_value l at more visit o.place (known_at o v) o.later v y) o.pending x s) (rest_of l at more visit []) (rest_of l at more visit os)

  tuples_on_top : (known : List Bound) (place : Place) (slot : Slot) (domain : Shape) (gs : List Shape) (os : List Opened) (x : A) (s : State) → then_do (each_tuple l at more visit known (shapes.generator place slot domain ∷ gs) x s) (rest_of l at more visit os) ≡ then_do (value l domain s) (λ d. rest_of l at more visit (opened known place slot gs d ∷ os) x)
  tuples_on_top known place slot domain gs os x s =
      ap (λ w. then_do w (rest_of l at more visit os)) (tuples_start known place slot domain gs x s)
      ∙ then_then (value l domain s) _ (rest_of l at more visit os)
      ∙ (λ k. then_do (value l domain s) (λ d t. on_top (opened known place slot gs d) os x t k))

  -- a value of another generator: its unit, the names, and the next generator opens
  pub rest_opens : (o : Opened) (os : List Opened) (v : ℤ) (x : A) (s : State) (place : Place) (slot : Slot) (domain : Shape) (gs : List Shape) → more x ≡ true → next_of o.pending ≡ Some v → o.later ≡ shapes.generator place slot domain ∷ gs → rest_of l at more visit (o ∷ os) x s ≡ then_do (charge 1 o.place s) (λ _. bind (known_at o v) >>= λ _. value l domain >>= λ d. rest_of l at more visit (opened (known_at o v) place slot gs d ∷ advanced o ∷ os) x)
  rest_opens o os v x s place slot domain gs m e next =
      rest_steps o os v x s m e
      ∙ ap (λ gs. then_do (one_value l at more visit o.place (known_at o v) gs v x s) (rest_of l at more visit (advanced o ∷ os))) next
      ∙ generated_then o.place (known_at o v) _ (rest_of l at more visit (advanced o ∷ os)) s
      ∙ (λ k. then_do (charge 1 o.place s) (λ _ t. then_do (bind (known_at o v) t) (λ _ u. tuples_on_top (known_at o v) place slot domain gs (advanced o ∷ os) x u k)))
