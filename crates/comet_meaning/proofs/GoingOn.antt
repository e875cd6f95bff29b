-- What goes onward: giving, halting, charging, one part after another, and writes of cells.
use Rattle.std.proofs.Common.{append_assoc, rules, arith, ap, ◌∙◌, ℕ, zero, suc, ◌-◌, ℤ, pos, ◌+ℤ◌, Bool, true, false, List, [], ◌∷◌, ◌++◌, nat_le, Option, Some, None, Result, Ok, Err, if◌then◌else◌}
use Rattle.cbl_base.specs.declared.place.Place.{Place}
use Rattle.cbl_base.specs.declared.faults.RunFault.{RunFault}
use Rattle.checked_tree.specs.declared.expressions.Slot.{Slot}
use Rattle.checked_tree.specs.declared.expressions.Slot.TheVariants.{Global, Local}
use Rattle.comet_meaning.specs.Values.{Value, Range, Set}
use Rattle.model_values.specs.declared.failure.Failure.{Failure}
use Rattle.comet_meaning.specs.State.{State, Cells, VariableCells, Left, left}
use Rattle.comet_meaning.specs.Outcome.{Outcome, Went, Halted, SpentAt, Act, then_do, ◌>>=◌, give, fault, give_or, give_or_met, unless, charge, each_of, each_from, each_in}
use Rattle.comet_meaning.specs.Cells.{look, put, back_in, in_scope, in_frame, cells, new_array, variables, new_variables, extent, count_cells, cell, found_at, put_number}
use Rattle.comet_meaning.specs.Onward.{IsOnward, IsFront, left_by, GoesOn}

pub onward_refl : (a : Left) → IsOnward a a
onward_refl a = record { fuel = omega arith; printed = ([], search rules) }

pub onward_trans : (a b c : Left) → IsOnward a b → IsOnward b c → IsOnward a c
onward_trans a b c h k = record { fuel = omega arith; printed = front_trans a.printed b.printed c.printed h.printed k.printed } where
  front_trans : (xs ys zs : List ℕ) → IsFront xs ys → IsFront ys zs → IsFront xs zs
  front_trans xs ys zs (v, e) (w, f) = (v ++ w, f ∙ (ap (λ u. u ++ w) e ∙ append_assoc xs v w))

pub then_on : {A B : Type 0} (a : Left) (o : Outcome A) (f : A → Act B) → IsOnward a (left_by o) → ((x : A) → GoesOn (f x)) → IsOnward a (left_by (then_do o f))
then_on a (Went x t) f h k = onward_trans a (left t) (left_by (f x t)) h ((k x).from t)
then_on a (Halted e t) f h k = h

pub goes_then : {A B : Type 0} {m : Act A} {f : A → Act B} → GoesOn m → ((x : A) → GoesOn (f x)) → GoesOn (m >>= f)
goes_then {m = m} {f = f} h k = record { from = λ s. then_on (left s) (m s) f (h.from s) k }

pub goes_give : {A : Type 0} {x : A} → GoesOn (give x)
goes_give = record { from = λ s. onward_refl (left s) }

pub goes_fault : {A : Type 0} {at : Place} {f : RunFault} → GoesOn {A = A} (fault at f)
goes_fault = record { from = λ s. onward_refl (left s) }

pub goes_if : {A : Type 0} {m n : Act A} (b : Bool) → GoesOn m → GoesOn n → GoesOn (if b then m else n)
goes_if true h k = h
goes_if false h k = k

pub goes_give_or : {A : Type 0} (at : Place) (r : Result A RunFault) → GoesOn (give_or at r)
goes_give_or at (Ok x) = goes_give
goes_give_or at (Err f) = goes_fault

pub goes_give_or_met : {A : Type 0} (r : Result A Failure) → GoesOn (give_or_met r)
goes_give_or_met (Ok x) = goes_give
goes_give_or_met (Err f) = goes_fault

pub goes_unless : (b : Bool) (at : Place) (f : RunFault) → GoesOn (unless b at f)
goes_unless true at f = goes_give
goes_unless false at f = goes_fault

charged_on : (b : Bool) (units : ℕ) (at : Place) (s : State) → IsOnward (left s) (left_by {A = Unit {0}} (if b then Went tt (record s { fuel = s.fuel - units }) else Halted (SpentAt at) (left s)))
charged_on true units at s = record { fuel = omega arith; printed = ([], search rules) }
charged_on false units at s = onward_refl (left s)

pub goes_charge : (units : ℕ) (at : Place) → GoesOn (charge units at)
unfolding charge
goes_charge units at = record { from = λ s. charged_on (nat_le units s.fuel) units at s }

-- what reads the state goes onward as what it then does
pub goes_at : {A : Type 0} {f : State → Act A} → ((s : State) → GoesOn (f s)) → GoesOn (λ s. f s s)
goes_at k = record { from = λ s. (k s).from s }

-- loops

pub goes_each_of : {A : Type 0} (more : A → Bool) (f : ℤ → A → Act A) (vs : List ℤ) (x : A) → ((v : ℤ) (y : A) → GoesOn (f v y)) → GoesOn (each_of more f vs x)
goes_each_of more f [] x k = goes_give
goes_each_of more f (v ∷ vs) x k = goes_if (more x) (goes_then (k v x) (λ y. goes_each_of more f vs y k)) goes_give

pub goes_each_from : {A : Type 0} (more : A → Bool) (f : ℤ → A → Act A) (v : ℤ) (n : ℕ) (x : A) → ((v : ℤ) (y : A) → GoesOn (f v y)) → GoesOn (each_from more f v n x)
goes_each_from more f v zero x k = goes_give
goes_each_from more f v (suc n) x k = goes_if (more x) (goes_then (k v x) (λ y. goes_each_from more f (v +ℤ pos 1) n y k)) goes_give

pub goes_each_in : {A : Type 0} (more : A → Bool) (f : ℤ → A → Act A) (d : Value) (x : A) → ((v : ℤ) (y : A) → GoesOn (f v y)) → GoesOn (each_in more f d x)
unfolding each_in
goes_each_in more f (Range b) x k = goes_each_from more f _ _ x k
goes_each_in more f (Set xs) x k = goes_each_of more f xs x k
goes_each_in more f v x k = goes_give

-- cells

pub goes_look : (slot : Slot) → GoesOn (look slot)
unfolding look
goes_look slot = record { from = λ s. onward_refl (left s) }

pub goes_put : (slot : Slot) (v : Value) → GoesOn (put slot v)
unfolding put
goes_put (Global i) v = record { from = λ s. onward_refl (left s) }
goes_put (Local i) v = record { from = λ s. onward_refl (left s) }

pub goes_back_in : {A : Type 0} (frame : List Value) (x : A) → GoesOn (back_in frame x)
goes_back_in frame x = record { from = λ s. onward_refl (left s) }

pub goes_in_scope : {A : Type 0} {m : Act A} → GoesOn m → GoesOn (in_scope m)
unfolding in_scope
goes_in_scope h = goes_at (λ s. goes_then h (goes_back_in s.frame))

pub goes_in_frame : {A : Type 0} (frame : List Value) {m : Act A} → GoesOn m → GoesOn (in_frame frame m)
unfolding in_frame
goes_in_frame frame h = record { from = λ s. h.from (record s { frame = frame }) }

pub goes_cells : (v : Value) → GoesOn (cells v)
unfolding cells
goes_cells v = record { from = λ s. onward_refl (left s) }

pub goes_new_array : (a : Cells) → GoesOn (new_array a)
unfolding new_array
goes_new_array a = record { from = λ s. onward_refl (left s) }

pub goes_variables : (v : Value) → GoesOn (variables v)
unfolding variables
goes_variables v = record { from = λ s. onward_refl (left s) }

pub goes_new_variables : (a : VariableCells) → GoesOn (new_variables a)
unfolding new_variables
goes_new_variables a = record { from = λ s. onward_refl (left s) }

pub goes_extent : (v : Value) → GoesOn (extent v)
unfolding extent
goes_extent v = record { from = λ s. onward_refl (left s) }

pub goes_count_cells : (v : Value) → GoesOn (count_cells v)
unfolding count_cells
goes_count_cells v = record { from = λ s. onward_refl (left s) }

pub goes_cell_of : (v : Value) (k : ℕ) → GoesOn (cell v k)
unfolding cell
goes_cell_of v k = record { from = λ s. onward_refl (left s) }

pub goes_found_at : (at : Place) (k : Option ℕ) → GoesOn (found_at at k)
goes_found_at at None = goes_fault
goes_found_at at (Some k) = goes_give

pub goes_put_number : (n k : ℕ) (z : ℤ) → GoesOn (put_number n k z)
unfolding put_number
goes_put_number n k z = record { from = λ s. onward_refl (left s) }
