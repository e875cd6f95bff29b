-- What only spends fuel, and what binds names besides, and sees nothing outside: giving, halting, charging, one part after
-- another.
use Rattle.std.proofs.Common.{◌≡◌, refl, ap, ◌∙◌, ℕ, zero, suc, ◌-◌, ℤ, pos, ◌+ℤ◌, Bool, true, false, List, [], ◌∷◌, nat_le, Option, Some, None, Result, Ok, Err, if◌then◌else◌}
use Rattle.cbl_base.specs.declared.place.Place.{Place}
use Rattle.cbl_base.specs.declared.faults.RunFault.{RunFault}
use Rattle.checked_tree.specs.declared.expressions.Slot.{Slot}
use Rattle.comet_meaning.specs.Values.{Value, Range, Set}
use Rattle.model_values.specs.declared.failure.Failure.{Failure}
use Rattle.comet_meaning.specs.State.{State, left}
use Rattle.comet_meaning.specs.Outcome.{Outcome, Went, Halted, SpentAt, Act, then_do, ◌>>=◌, give, fault, give_or, give_or_met, unless, charge, each_of, each_from, each_in}
use Rattle.comet_meaning.specs.Cells.{held, look, put, back_in, in_scope, in_frame, cells_of, cells, variables_of, variables, extent_of, extent, size_in, count_cells, cell_in, cell, found_at}
use Rattle.comet_meaning.specs.Spending.{IsSpent, IsBound, Outside, with_outside, leaving, SeesInside, OnlySpends, OnlyBinds}

-- steps

spent_then : {A B : Type 0} (s : State) (o : Outcome A) (f : A → Act B) → IsSpent s o → ((x : A) → OnlySpends (f x)) → IsSpent s (then_do o f)
spent_then {B = B} s (Went x t) f h k = behind (f x t) ((k x).from t) where
  behind : (o : Outcome B) → IsSpent t o → IsSpent s o
  behind (Went y u) e = e ∙ ap {A = State} (λ v. record v { fuel = u.fuel }) h
  behind (Halted b u) e = e ∙ ap {A = State} (λ v. v.printed) h
spent_then s (Halted b t) f h k = h

bound_then : {A B : Type 0} (s : State) (o : Outcome A) (f : A → Act B) → IsBound s o → ((x : A) → OnlyBinds (f x)) → IsBound s (then_do o f)
bound_then {B = B} s (Went x t) f h k = behind (f x t) ((k x).from t) where
  behind : (o : Outcome B) → IsBound t o → IsBound s o
  behind (Went y u) e = e ∙ ap {A = State} (λ v. record v { fuel = u.fuel; frame = u.frame }) h
  behind (Halted b u) e = e ∙ ap {A = State} (λ v. v.printed) h
bound_then s (Halted b t) f h k = h

inside_then : {A B : Type 0} (o : Outside) (p : Outcome A) (f : A → Act B) → ((x : A) → SeesInside (f x)) → then_do (leaving o p) f ≡ leaving o (then_do p f)
inside_then o (Went x t) f k = k x o t
inside_then o (Halted b t) f k = refl

-- one part after another
sees_then : {A B : Type 0} (m : Act A) (f : A → Act B) → SeesInside m → ((x : A) → SeesInside (f x)) → SeesInside (m >>= f)
sees_then m f h k = λ o s. ap (λ p. then_do p f) (h o s) ∙ inside_then o (m s) f k

bound_of_spent : {A : Type 0} (s : State) (o : Outcome A) → IsSpent s o → IsBound s o
bound_of_spent s (Went x t) h = h ∙ ap (λ v. record s { fuel = t.fuel; frame = v }) (framed (ap (λ v. v.frame) h)) where
  framed : t.frame ≡ s.frame → s.frame ≡ t.frame
  framed e = cc
bound_of_spent s (Halted b t) h = h

pub binds : {A : Type 0} {m : Act A} → OnlySpends m → OnlyBinds m
binds {m = m} h = record { from = λ s. bound_of_spent s (m s) (h.from s); inside = h.inside }

pub spends_then : {A B : Type 0} {m : Act A} {f : A → Act B} → OnlySpends m → ((x : A) → OnlySpends (f x)) → OnlySpends (m >>= f)
spends_then {m = m} {f = f} h k = record { from = λ s. spent_then s (m s) f (h.from s) k; inside = sees_then m f h.inside (λ x. (k x).inside) }

pub binds_then : {A B : Type 0} {m : Act A} {f : A → Act B} → OnlyBinds m → ((x : A) → OnlyBinds (f x)) → OnlyBinds (m >>= f)
binds_then {m = m} {f = f} h k = record { from = λ s. bound_then s (m s) f (h.from s) k; inside = sees_then m f h.inside (λ x. (k x).inside) }

pub spends_give : {A : Type 0} {x : A} → OnlySpends (give x)
spends_give = record { from = λ s. refl; inside = λ o s. refl }

pub spends_fault : {A : Type 0} {at : Place} {f : RunFault} → OnlySpends {A = A} (fault at f)
spends_fault = record { from = λ s. refl; inside = λ o s. refl }

pub spends_if : {A : Type 0} {m n : Act A} (b : Bool) → OnlySpends m → OnlySpends n → OnlySpends (if b then m else n)
spends_if true h k = h
spends_if false h k = k

pub binds_if : {A : Type 0} {m n : Act A} (b : Bool) → OnlyBinds m → OnlyBinds n → OnlyBinds (if b then m else n)
binds_if true h k = h
binds_if false h k = k

pub spends_give_or : {A : Type 0} (at : Place) (r : Result A RunFault) → OnlySpends (give_or at r)
spends_give_or at (Ok x) = spends_give
spends_give_or at (Err f) = spends_fault

pub spends_give_or_met : {A : Type 0} (r : Result A Failure) → OnlySpends (give_or_met r)
spends_give_or_met (Ok x) = spends_give
spends_give_or_met (Err f) = spends_fault

pub spends_unless : (b : Bool) (at : Place) (f : RunFault) → OnlySpends (unless b at f)
spends_unless true at f = spends_give
spends_unless false at f = spends_fault

charged : (b : Bool) (units : ℕ) (at : Place) (s : State) → IsSpent {A = Unit {0}} s (if b then Went tt (record s { fuel = s.fuel - units }) else Halted (SpentAt at) (left s))
charged true units at s = refl
charged false units at s = refl

abbrev charged_outcome : Bool → ℕ → Place → State → Outcome (Unit {0})
charged_outcome b units at s = if b then Went tt (record s { fuel = s.fuel - units }) else Halted (SpentAt at) (left s)

charged_inside : (b : Bool) (units : ℕ) (at : Place) (o : Outside) (s : State) → charged_outcome b units at (with_outside o s) ≡ leaving o (charged_outcome b units at s)
charged_inside true units at o s = refl
charged_inside false units at o s = refl

pub spends_charge : (units : ℕ) (at : Place) → OnlySpends (charge units at)
unfolding charge
spends_charge units at = record { from = λ s. charged (nat_le units s.fuel) units at s; inside = λ o s. charged_inside (nat_le units s.fuel) units at o s }

pub spends_at : {A : Type 0} {f : State → Act A} → ((o : Outside) (s : State) → f (with_outside o s) ≡ f s) → ((s : State) → OnlySpends (f s)) → OnlySpends (λ s. f s s)
spends_at {f = f} e k = record { from = λ s. (k s).from s; inside = λ o s. ap (λ m. m (with_outside o s)) (e o s) ∙ (k s).inside o s }

-- loops

pub binds_each_of : {A : Type 0} (more : A → Bool) (f : ℤ → A → Act A) (vs : List ℤ) (x : A) → ((v : ℤ) (y : A) → OnlyBinds (f v y)) → OnlyBinds (each_of more f vs x)
binds_each_of more f [] x k = binds spends_give
binds_each_of more f (v ∷ vs) x k = binds_if (more x) (binds_then (k v x) (λ y. binds_each_of more f vs y k)) (binds spends_give)

pub binds_each_from : {A : Type 0} (more : A → Bool) (f : ℤ → A → Act A) (v : ℤ) (n : ℕ) (x : A) → ((v : ℤ) (y : A) → OnlyBinds (f v y)) → OnlyBinds (each_from more f v n x)
binds_each_from more f v zero x k = binds spends_give
binds_each_from more f v (suc n) x k = binds_if (more x) (binds_then (k v x) (λ y. binds_each_from more f (v +ℤ pos 1) n y k)) (binds spends_give)

pub binds_each_in : {A : Type 0} (more : A → Bool) (f : ℤ → A → Act A) (d : Value) (x : A) → ((v : ℤ) (y : A) → OnlyBinds (f v y)) → OnlyBinds (each_in more f d x)
unfolding each_in
binds_each_in more f (Range b) x k = binds_each_from more f _ _ x k
binds_each_in more f (Set xs) x k = binds_each_of more f xs x k
binds_each_in more f v x k = binds spends_give

-- cells

pub spends_look : (slot : Slot) → OnlySpends (look slot)
unfolding look
spends_look slot = record { from = λ s. refl; inside = λ o s. looked slot o s } where
  looked : (slot : Slot) (o : Outside) (s : State) → Went (held (with_outside o s) slot) (with_outside o s) ≡ Went (held s slot) (with_outside o s)
  looked (Slot.Global i) o s = refl
  looked (Slot.Local i) o s = refl

pub binds_put : (i : ℕ) (v : Value) → OnlyBinds (put (Slot.Local i) v)
unfolding put
binds_put i v = record { from = λ s. refl; inside = λ o s. refl }

scoped : {A : Type 0} (s : State) (o : Outcome A) → IsBound s o → IsSpent s (then_do o (back_in s.frame))
scoped s (Went x t) h = ap {A = State} (λ v. record v { frame = s.frame }) h
scoped s (Halted b t) h = h

scoped_inside : {A : Type 0} (frame : List Value) (o : Outside) (p : Outcome A) → then_do (leaving o p) (back_in frame) ≡ leaving o (then_do p (back_in frame))
scoped_inside frame o (Went x t) = refl
scoped_inside frame o (Halted b t) = refl

pub spends_in_scope : {A : Type 0} {m : Act A} → OnlyBinds m → OnlySpends (in_scope m)
unfolding in_scope
spends_in_scope {m = m} h = record { from = λ s. scoped s (m s) (h.from s); inside = λ o s. ap (λ p. then_do p (back_in s.frame)) (h.inside o s) ∙ scoped_inside s.frame o (m s) }

framed_bound : {A : Type 0} (frame : List Value) (s : State) (o : Outcome A) → IsBound (record s { frame = frame }) o → IsBound s o
framed_bound frame s (Went x t) h = h
framed_bound frame s (Halted b t) h = h

pub binds_in_frame : {A : Type 0} (frame : List Value) {m : Act A} → OnlyBinds m → OnlyBinds (in_frame frame m)
unfolding in_frame
binds_in_frame frame {m = m} h = record { from = λ s. framed_bound frame s (m (record s { frame = frame })) (h.from (record s { frame = frame })); inside = λ o s. h.inside o (record s { frame = frame }) }

pub spends_cells : (v : Value) → OnlySpends (cells v)
unfolding cells
spends_cells v = record { from = λ s. refl; inside = λ o s. taken v o s } where
  taken : (v : Value) (o : Outside) (s : State) → Went (cells_of (with_outside o s) v) (with_outside o s) ≡ Went (cells_of s v) (with_outside o s)
  taken (Value.Array n) o s = refl
  taken (Value.Row xs) o s = refl
  taken v o s = refl

pub spends_variables : (v : Value) → OnlySpends (variables v)
unfolding variables
spends_variables v = record { from = λ s. refl; inside = λ o s. taken v o s } where
  taken : (v : Value) (o : Outside) (s : State) → Went (variables_of (with_outside o s) v) (with_outside o s) ≡ Went (variables_of s v) (with_outside o s)
  taken (Value.Variables n) o s = refl
  taken v o s = refl

pub spends_extent : (v : Value) → OnlySpends (extent v)
unfolding extent
spends_extent v = record { from = λ s. refl; inside = λ o s. taken v o s } where
  taken : (v : Value) (o : Outside) (s : State) → Went (extent_of (with_outside o s) v) (with_outside o s) ≡ Went (extent_of s v) (with_outside o s)
  taken (Value.Variables n) o s = refl
  taken (Value.Array n) o s = refl
  taken (Value.Row xs) o s = refl
  taken v o s = refl

pub spends_count_cells : (v : Value) → OnlySpends (count_cells v)
unfolding count_cells
spends_count_cells v = record { from = λ s. refl; inside = λ o s. taken v o s } where
  taken : (v : Value) (o : Outside) (s : State) → Went (size_in (with_outside o s) v) (with_outside o s) ≡ Went (size_in s v) (with_outside o s)
  taken (Value.Variables n) o s = refl
  taken (Value.Array n) o s = refl
  taken (Value.Row xs) o s = refl
  taken v o s = refl

pub spends_cell_of : (v : Value) (k : ℕ) → OnlySpends (cell v k)
unfolding cell
spends_cell_of v k = record { from = λ s. refl; inside = λ o s. taken v k o s } where
  taken : (v : Value) (k : ℕ) (o : Outside) (s : State) → Went (cell_in (with_outside o s) v k) (with_outside o s) ≡ Went (cell_in s v k) (with_outside o s)
  taken (Value.Variables n) k o s = refl
  taken (Value.Array n) k o s = refl
  taken (Value.Row xs) k o s = refl
  taken v k o s = refl

pub spends_found_at : (at : Place) (k : Option ℕ) → OnlySpends (found_at at k)
spends_found_at at None = spends_fault
spends_found_at at (Some k) = spends_give
