-- A loop over the values of a domain, from the first: what is left of them is numbers from here on, or the members from
-- here on, and what is still to be done is the whole.
use Rattle.std.proofs.Common.{◌≡◌, sym, subst, ◌∙◌, ℕ, ◌+◌, ◌-◌, ◌<◌, ℤ, pos, Bool, true, false, List, length, drop, None, Some}
use Rattle.std.proofs.lemmas.List.{at_drop_more}
use Rattle.comet_meaning.specs.State.{State, Left, left}
use Rattle.comet_meaning.specs.Outcome.{Outcome, Went, Halted, Halt, Act, then_do}
use Rattle.comet_meaning.specs.Odometer.{Pending, Members, next_of, behind_next, each_pending}
use Rattle.comet_meaning.specs.Onward.{IsOnward, left_by, GoesOn}
use Rattle.comet_meaning.proofs.Endings.{went_then, halted_then, Passes, passes_to}
use Rattle.comet_meaning.proofs.Tuples.{pending_ends, pending_over, pending_step}
use Rattle.comet_meaning.proofs.TupleSteps.{goes_pending}

-- numbers in a row

-- members

pub members_behind : (vs : List ℤ) (i : ℕ) → i < length vs → behind_next (Members (drop i vs)) ≡ Members (drop (i + 1) vs)
members_behind vs i h = at_drop_more (λ us. behind_next (Members us)) vs i (pos 0) h

-- what is left

pub record EachLeft {A : Type 0} (more : A → Bool) (f : ℤ → A → Act A) (p : Pending) (x : A) (s : State) (w : Outcome A) : Type 0 where
  pub left : each_pending more f p x s ≡ w

module _ {A : Type 0} {more : A → Bool} {f : ℤ → A → Act A} {p : Pending} {x : A} {s : State} {w : Outcome A} (m : EachLeft more f p x s w) where
  pub each_end : next_of p ≡ None → w ≡ Went x s
  each_end e = sym m.left ∙ pending_ends more f p x s e

  pub each_over : more x ≡ false → w ≡ Went x s
  each_over e = sym m.left ∙ pending_over more f p x s e

  pub each_onward : ((v : ℤ) (y : A) → GoesOn (f v y)) → IsOnward (left s) (left_by w)
  each_onward k = subst (λ o. IsOnward (left s) (left_by o)) m.left ((goes_pending more f p x k).from s)

  module _ (v : ℤ) (on : more x ≡ true) (next : next_of p ≡ Some v) where
    pub each_at : then_do (f v x s) (each_pending more f (behind_next p)) ≡ w
    each_at = sym (pending_step more f p v x s on next) ∙ m.left

    pub each_step : {y : A} {t : State} → f v x s ≡ Went y t → EachLeft more f (behind_next p) y t w
    each_step e = record { left = sym (went_then _ e) ∙ each_at }

    pub each_halt : {h : Halt} {t : Left} → f v x s ≡ Halted h t → w ≡ Halted h t
    each_halt e = sym each_at ∙ halted_then _ e

    pub each_err : (P : (A : Type 0) → Outcome A → Type 0) → Passes P → ((v : ℤ) (y : A) → GoesOn (f v y)) → P A (f v x s) → P A w
    each_err P through k e = passes_to P through _ _ each_at (λ y. goes_pending more f (behind_next p) y k) e
