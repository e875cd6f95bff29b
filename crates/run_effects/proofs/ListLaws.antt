-- A list of exactly so many numbers.
use Rattle.std.proofs.Common.{◌≡◌, refl, ◌∙◌, ℕ, ℤ, Bool, true, false, List, length}
use Rattle.std.specs.Prelude.{nat_eq}
use Rattle.std.proofs.lemmas.Bool.{eq-eqb, ne_eqb}
use Rattle.cbl_base.specs.declared.place.Place.{Place}
use Rattle.cbl_base.specs.declared.faults.RunFault.TheVariants.{OutOfRange}
use Rattle.comet_meaning.specs.Values.{Value}
use Rattle.comet_meaning.specs.State.{State, Cells, left}
use Rattle.comet_meaning.specs.Outcome.{Outcome, Went, Halted, Faulted, Act, then_do, give, unless, ◌>>=◌}
use Rattle.comet_meaning.proofs.Endings.{went_then}
use Rattle.run_objects.specs.OfRunState.Acts.{numbers_read}
use Rattle.run_steps.specs.Operands.{exactly}

module _ (at place : Place) (count : ℕ) (v : Value) (s : State) {xs : List ℤ} {t : State} (read : numbers_read place v s ≡ Went xs t) where
  pub exactly_wrong : (length xs ≡ count → ⊥) → exactly at place count v s ≡ Halted (Faulted at OutOfRange) (left t)
  exactly_wrong h = went_then _ read ∙ rw (ne_eqb (length xs) count h) refl

  pub exactly_right : length xs ≡ count → exactly at place count v s ≡ Went xs t
  exactly_right h = went_then _ read ∙ rw (eq-eqb (length xs) count h) refl

-- a list that is read, its length tested, and then what is done with its numbers
pub listed_then : {B : Type 0} (o : Outcome Cells) (count : ℕ) (at : Place) (f : List ℤ → Act B) → then_do o (λ c. unless (nat_eq (length c.numbers) count) at OutOfRange >>= λ _. f c.numbers) ≡ then_do (then_do (then_do o (λ c. give c.numbers)) (λ xs. unless (nat_eq (length xs) count) at OutOfRange >>= λ _. give xs)) f
listed_then (Halted h l) count at f = refl
listed_then {B} (Went c t) count at f = go (nat_eq (length c.numbers) count) where
  go : (b : Bool) → then_do (unless b at OutOfRange t) (λ _. f c.numbers) ≡ then_do (then_do (unless b at OutOfRange t) (λ _. give c.numbers)) f
  go true = refl
  go false = refl
