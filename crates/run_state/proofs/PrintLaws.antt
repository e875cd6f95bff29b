-- Printing an array: it goes onward, and its text is what the array comes to.
use Rattle.std.proofs.Common.{◌≡◌, ℕ, List, [], Vec, Global, Result, Ok, Err, IfOk, map, refl, ◌∙◌, ap, subst}
use Rattle.cbl_base.specs.declared.place.Place.{Place}
use Rattle.comet_meaning.specs.Values.{Value, Variables}
use Rattle.comet_meaning.specs.State.{State, VariableCells}
use Rattle.comet_meaning.specs.Outcome.{Outcome, Went, Halted, then_do, give, charge}
use Rattle.comet_meaning.specs.Cells.{cells, variables, variables_of, size_in}
use Rattle.comet_meaning.specs.Taking.{read_each}
use Rattle.comet_meaning.specs.Printing as printing
use Rattle.comet_meaning.specs.Printing.{array_text, variables_text, grid_text, cells_text, print}
use Rattle.comet_meaning.specs.Onward.{IsFront, GoesOn, left_by}
use Rattle.comet_meaning.proofs.GoingOn.{goes_then}
use Rattle.comet_meaning.proofs.GoingStatements.{goes_array_text, goes_variables_text, goes_print}
use Rattle.run_values.specs.Did.{Did, Stopped}
use Rattle.run_values.specs.declared.stop.Stop.{Stop}
use Rattle.run_state.specs.Acts.{array_shown, array_text_of, text_read, values_now, variables_chars, array_chars}
use Rattle.run_state.proofs.ReadLaws.{stopped_behind, each_now}

goes_array_text_of : (at : Place) (v : Value) → GoesOn (array_text_of at v)
goes_array_text_of at (Variables n) = goes_variables_text at (Variables n)
goes_array_text_of at v = goes_array_text at v

goes_array_shown : (at : Place) (v : Value) → GoesOn (array_shown at v)
goes_array_shown at v = goes_then (goes_array_text_of at v) (λ text. goes_print text)

pub front_of_array : (at : Place) (v : Value) (s : State) → IsFront s.printed (left_by (array_shown at v s)).printed
front_of_array at v s = ((goes_array_shown at v).from s).printed

-- where the cells are paid for, the text is read
pub array_paid : (at : Place) (v : Value) (s : State) (n f : ℕ) → n ≡ size_in s v → charge n at s ≡ Went tt (record s { fuel = f }) → array_text_of at v s ≡ text_read at v (record s { fuel = f })
unfolding cells variables array_text variables_text
array_paid at (Variables k) s n f is paid = rw (← is, paid) refl
array_paid at v s n f is paid = rw (← is, paid) refl

-- where they can't be paid for, it stops so
pub array_unpaid : (at : Place) (v : Value) (s t : State) (n : ℕ) (stop : Stop) → n ≡ size_in s v → Stopped stop t (charge n at s) → Stopped stop t (array_text_of at v s)
unfolding cells variables array_text variables_text
array_unpaid at (Variables k) s t n stop is e = stopped_behind stop t (charge (size_in s (Variables k)) at s) _ (subst (λ m. Stopped stop t (charge m at s)) is e)
array_unpaid at v s t n stop is e = stopped_behind stop t (charge (size_in s v) at s) _ (subst (λ m. Stopped stop t (charge m at s)) is e)

-- what is read is the text that the array comes to
variables_now : (s t : State) (c : VariableCells) (text : List ℕ) (o : Outcome (List Value)) → ((ws : List Value) (r : State) → o ≡ Went ws r → (ws ≡ values_now s c.variables) × (r ≡ s)) →
    then_do o (λ vs. give (grid_text c.rows (map printing.plain_text vs) c.columns)) ≡ Went text t → text ≡ variables_chars s c
variables_now s t c text (Halted h l) known e = absurd cc
variables_now s t c text (Went ws r) known e =
    let first : text ≡ grid_text c.rows (map printing.plain_text ws) c.columns = cc in
    first ∙ ap (λ (vs : List Value). grid_text c.rows (map printing.plain_text vs) c.columns) (known ws r refl).0

text_now : (at : Place) (v : Value) (s t : State) (text : List ℕ) → text_read at v s ≡ Went text t → text ≡ array_chars s v
unfolding cells variables
text_now at (Variables n) s t text e =
    variables_now s t (variables_of s (Variables n)) text (read_each at (variables_of s (Variables n)).variables [] s) (each_now at (variables_of s (Variables n)).variables s) e
text_now at v s t text e = cc

chars_kept : (v : Value) (s : State) (f : ℕ) → array_chars (record s { fuel = f }) v ≡ array_chars s v
chars_kept (Variables n) s f = refl
chars_kept v s f = refl

pub paid_chars : (at : Place) (v : Value) (s : State) (f : ℕ) (r : Result (Vec ℕ Global) Stop) → Did (λ text. text.items) r (record s { fuel = f }) (text_read at v (record s { fuel = f })) → IfOk r (λ text. text.items ≡ array_chars s v)
paid_chars at v s f (Ok text) e = text_now at v (record s { fuel = f }) (record s { fuel = f }) text.items e ∙ chars_kept v s f
paid_chars at v s f (Err stop) e = tt
