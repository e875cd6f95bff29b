-- Acts on arrays that are taken whole, step by step.
use Rattle.std.proofs.Common.{◌≡◌, ℕ, ◌≤◌, ℤ, pos, List, length, nat_eq, refl, sym, ◌∙◌, subst}
use Rattle.std.proofs.lemmas.Bool.{le-leb, eq-eqb, ne_eqb}
use Rattle.cbl_base.specs.Counts.{count_of}
use Rattle.cbl_base.specs.declared.place.Place.{Place}
use Rattle.cbl_base.specs.declared.faults.RunFault.TheVariants.{OutOfRange}
use Rattle.checked_tree.specs.declared.expressions.Slot.{Slot}
use Rattle.comet_meaning.specs.Values.{Value, Number}
use Rattle.comet_meaning.specs.State.{State, Cells, left}
use Rattle.comet_meaning.specs.Outcome.{Outcome, Went, Halted, Faulted, then_do, ◌>>=◌, give, unless, charge}
use Rattle.comet_meaning.specs.Cells.{row_of, new_array, put, count_cells, size_in}
use Rattle.comet_meaning.specs.Taking.{read_array, taken_whole}
use Rattle.comet_meaning.specs.Limits.{most_data}
use Rattle.comet_meaning.specs.Data.{next_number, first_word, behind_blanks, unread}
use Rattle.run_values.specs.Did.{Stopped}
use Rattle.run_values.specs.declared.stop.Stop.{Stop}
use Rattle.run_state.specs.Acts.{numbers_read, count_read, counted, copied_into, listed}
use Rattle.run_state.proofs.ReadLaws.{stopped_behind, numbers_then}

stopped_by : {A : Type 0} (stop : Stop) (t : State) {o w : Outcome A} → o ≡ w → Stopped stop t w → Stopped stop t o
stopped_by stop t e h = subst (Stopped stop t) (sym e) h

-- where the call and the cells are paid for, the numbers are read and counted
pub counted_law : (call place : Place) (v : Value) (z : ℤ) (s : State) (n f g : ℕ) → n ≡ size_in (record s { fuel = f }) v → charge 1 call s ≡ Went tt (record s { fuel = f }) → charge n place (record s { fuel = f }) ≡ Went tt (record s { fuel = g }) →
    counted call place v z s ≡ then_do (count_read place v z (record s { fuel = g })) (λ k. give (Number k))
unfolding count_cells taken_whole
counted_law call place v z s n f g is charged paid = rw (charged, ← is, paid) (counting (read_array place v (record s { fuel = g }))) where
  counting : (o : Outcome Cells) → then_do (then_do o (λ c. give c.numbers)) (λ xs. give (Number (pos (count_of z xs)))) ≡ then_do (then_do (then_do o (λ c. give c.numbers)) (λ xs. give (pos (count_of z xs)))) (λ k. give (Number k))
  counting (Went c t) = refl
  counting (Halted h l) = refl

pub copied_law : (at place : Place) (slot : Slot) (v : Value) (s : State) (f : ℕ) (xs : List ℤ) (a : Value) (t : State) → numbers_read place v s ≡ Went xs s → charge (length xs) at s ≡ Went tt (record s { fuel = f }) → new_array (row_of xs) (record s { fuel = f }) ≡ Went a t → copied_into at place slot v s ≡ put slot a t
copied_law at place slot v s f xs a t read charged made =
    numbers_then (read_array place v s) (λ ys. charge (length ys) at >>= λ _. new_array (row_of ys) >>= λ b. put slot b) xs s read ∙ rw (charged, made) refl

pub listed_law : (at place : Place) (count : ℕ) (v : Value) (s : State) (f : ℕ) (xs : List ℤ) → numbers_read place v s ≡ Went xs s → length xs ≡ count → charge count at s ≡ Went tt (record s { fuel = f }) → listed at place count v s ≡ Went xs (record s { fuel = f })
listed_law at place count v s f xs read many charged =
    numbers_then (read_array place v s) (λ ys. unless (nat_eq (length ys) count) at OutOfRange >>= λ _. charge count at >>= λ _. give ys) xs s read ∙ rw (eq-eqb (length xs) count many, charged) refl

-- where the numbers are read, and can't be paid for

pub copied_unpaid : (stop : Stop) (at place : Place) (slot : Slot) (v : Value) (s t : State) (n : ℕ) (xs : List ℤ) → numbers_read place v s ≡ Went xs s → n ≡ length xs → Stopped stop t (charge n at s) → Stopped stop t (copied_into at place slot v s)
copied_unpaid stop at place slot v s t n xs read many e =
    stopped_by stop t (numbers_then (read_array place v s) (λ ys. charge (length ys) at >>= λ _. new_array (row_of ys) >>= λ b. put slot b) xs s read)
    (stopped_behind stop t (charge (length xs) at s) (λ _. new_array (row_of xs) >>= λ b. put slot b) (subst (λ m. Stopped stop t (charge m at s)) many e))

pub listed_unpaid : (stop : Stop) (at place : Place) (count : ℕ) (v : Value) (s t : State) (xs : List ℤ) → numbers_read place v s ≡ Went xs s → length xs ≡ count → Stopped stop t (charge count at s) → Stopped stop t (listed at place count v s)
listed_unpaid stop at place count v s t xs read many e =
    stopped_by stop t (numbers_then (read_array place v s) (λ ys. unless (nat_eq (length ys) count) at OutOfRange >>= λ _. charge count at >>= λ _. give ys) xs s read ∙ rw (eq-eqb (length xs) count many) refl)
    (stopped_behind stop t (charge count at s) (λ _. give xs) e)

pub listed_wrong : (at place : Place) (count : ℕ) (v : Value) (s : State) (xs : List ℤ) → numbers_read place v s ≡ Went xs s → (length xs ≡ count → ⊥) → listed at place count v s ≡ Halted (Faulted at OutOfRange) (left s)
listed_wrong at place count v s xs read many =
    numbers_then (read_array place v s) (λ ys. unless (nat_eq (length ys) count) at OutOfRange >>= λ _. charge count at >>= λ _. give ys) xs s read ∙ rw (ne_eqb (length xs) count many) refl

-- data that isn't too long is read
pub read_law : (at : Place) (v : Value) (s : State) → length s.data_text ≤ most_data → next_number at v s ≡ first_word at v (behind_blanks (unread s v)) s
unfolding next_number
read_law at v s h = rw (le-leb (length s.data_text) most_data h) refl
