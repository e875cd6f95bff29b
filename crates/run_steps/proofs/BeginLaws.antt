-- How a value of a generator begins.
use Rattle.std.proofs.Common.{◌≡◌, refl, sym, subst, ap, ◌∙◌, ℤ, List, [], ◌∷◌, Result, Ok, Err}
use Rattle.std.specs.Prelude.{IsErrAnd, FitsSigned}
use Rattle.std.proofs.Common.{to_z, of_z, w64}
use Rattle.std.proofs.lemmas.Int.{to_z-of_z}
use Rattle.cbl_base.specs.declared.place.Place.{Place}
use Rattle.checked_tree.specs.declared.expressions.Slot.{Slot}
use Rattle.comet_meaning.specs.Values.{Number}
use Rattle.comet_meaning.specs.State.{State}
use Rattle.comet_meaning.specs.Outcome.{Outcome, Went, Halted, then_do, give, charge}
use Rattle.comet_meaning.specs.Cells.{put}
use Rattle.comet_meaning.specs.Generators.{Bound, with_bound, bind, generated}
use Rattle.comet_meaning.specs.Odometer.{begun}
use Rattle.comet_meaning.proofs.GoingOn.{goes_then, goes_give}
use Rattle.comet_meaning.proofs.GoingParts.{goes_bind}
use Rattle.comet_meaning.proofs.Endings.{went_then, halted_then, Passes}
use Rattle.comet_meaning.proofs.TupleSteps.{begun_err, bind_append}
use Rattle.run_values.specs.declared.stop.Stop.{Stop}
use Rattle.run_values.specs.declared.stop.Stop.TheVariants.{Fault, Spent, Cyclic, NoMemory, Output}
use Rattle.run_values.specs.Did.{Did, Stopped}

pub stopped_passes : (stop : Stop) (t : State) → Passes (λ A o. Stopped stop t o)
stopped_passes (Fault place f) t A B o g k e = halted_then g e
stopped_passes (Spent place) t A B o g k e = halted_then g e
stopped_passes (Cyclic place names) t A B o g k e = halted_then g e
stopped_passes NoMemory t A B o g k e = tt
stopped_passes (Output stop) t A B o g k e = tt

pub did_exit : {X A : Type 0} (view : X → A) (r : Result X Stop) (t : State) (o : Outcome A) (stop : Stop) → IsErrAnd r (λ y. y ≡ stop) → Stopped stop t o → Did view r t o
did_exit view (Ok x) t o stop h k = absurd h
did_exit view (Err y) t o stop h k = subst (λ z. Stopped z t o) (sym h) k

then_unit : (o : Outcome (Unit {0})) → then_do o (λ _. give tt) ≡ o
then_unit (Went x s) = refl
then_unit (Halted h t) = refl

module _ (place : Place) (known : List Bound) (slot : Slot) (v : ℤ) (s : State) where
  pub begun_charge_stops : (stop : Stop) (t : State) → Stopped stop t (charge 1 place s) → Stopped stop t (begun place (with_bound known slot v) s)
  unfolding generated
  begun_charge_stops stop t e = stopped_passes stop t (Unit {0}) (Unit {0}) (charge 1 place s) _ (λ _. goes_then (goes_bind (with_bound known slot v)) (λ _. goes_give)) e

  pub begun_bind_stops : (stop : Stop) (t : State) {u : State} → charge 1 place s ≡ Went tt u → Stopped stop t (bind known u) → Stopped stop t (begun place (with_bound known slot v) s)
  begun_bind_stops stop t {u} c e =
      begun_err place (with_bound known slot v) s (λ A o. Stopped stop t o) (stopped_passes stop t) c
      (subst (Stopped stop t) (sym (bind_append known (record { slot = slot; value = v } ∷ []) u))
      (stopped_passes stop t (Unit {0}) (Unit {0}) (bind known u) _ (λ _. goes_bind (record { slot = slot; value = v } ∷ [])) e))

  pub begun_is : {u w : State} → charge 1 place s ≡ Went tt u → bind known u ≡ Went tt w → begun place (with_bound known slot v) s ≡ put slot (Number v) w
  unfolding generated bind
  begun_is {u} {w} c b =
      went_then _ c
      ∙ ap (λ o. then_do o (λ _. give tt)) (bind_append known (record { slot = slot; value = v } ∷ []) u ∙ went_then _ b)
      ∙ then_unit (then_do (put slot (Number v) w) (λ _. give tt))
      ∙ then_unit (put slot (Number v) w)

-- a number that is held in a word gets into a cell

module _ (slot : Slot) (z : ℤ) (s t : State) (f : FitsSigned w64 z) where
  pub put_stops : (stop : Stop) → Stopped stop t (put slot (Number (to_z w64 (of_z w64 z))) s) → Stopped stop t (put slot (Number z) s)
  put_stops stop h = subst (λ x. Stopped stop t (put slot (Number x) s)) (to_z-of_z w64 z f) h

  pub put_went : put slot (Number (to_z w64 (of_z w64 z))) s ≡ Went tt t → put slot (Number z) s ≡ Went tt t
  put_went h = subst (λ x. put slot (Number x) s ≡ Went tt t) (to_z-of_z w64 z f) h

  pub put_did : (r : Result (Unit {0}) Stop) → Did (λ _. tt) r t (put slot (Number (to_z w64 (of_z w64 z))) s) → Did (λ _. tt) r t (put slot (Number z) s)
  put_did r h = subst (λ x. Did (λ _. tt) r t (put slot (Number x) s)) (to_z-of_z w64 z f) h
