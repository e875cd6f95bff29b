-- What a part of a program does: it gives a value and leaves a state, or it halts the run, with a fault, because the fuel
-- is spent, or at a cycle of definitions, each at a place. Of a state at which a run halts only the fuel and what was printed are told. Parts
-- follow one another by `>>=`. A rule of this project.
use Rattle.std.specs.Prelude.{ℕ, zero, suc, ◌-◌, ℤ, pos, ◌+ℤ◌, Bool, true, List, [], ◌∷◌, nat_le, Result, Ok, Err, if◌then◌else◌}
use Rattle.cbl_base.specs.declared.place.Place.{Place}
use Rattle.cbl_base.specs.declared.faults.RunFault.{RunFault}
use Rattle.comet_meaning.specs.Values.{Value, Range, Set, size_of}
use Rattle.model_values.specs.declared.failure.Failure.{Failure}
use Rattle.comet_meaning.specs.State.{State, Left, left}

-- why a run ends before its last statement
pub data Halt : Type 0 where
  Faulted : Place → RunFault → Halt
  SpentAt : Place → Halt
  -- with the names of the variables on the cycle
  Cyclic : Place → List (List ℕ) → Halt

pub data Outcome (A : Type 0) : Type 0 where
  Went : A → State → Outcome A
  Halted : Halt → Left → Outcome A

abbrev pub Act : Type 0 → Type 0
Act A = State → Outcome A

abbrev pub then_do : {A B : Type 0} → Outcome A → (A → Act B) → Outcome B
then_do (Went x s) f = f x s
then_do (Halted h t) f = Halted h t

infixl 10 ◌>>=◌
abbrev pub ◌>>=◌ : {A B : Type 0} → Act A → (A → Act B) → Act B
m >>= f = λ s. then_do (m s) f

abbrev pub give : {A : Type 0} → A → Act A
give x = λ s. Went x s

-- the run halts
abbrev pub halt : {A : Type 0} → Halt → Act A
halt h = λ s. Halted h (left s)

abbrev pub fault : {A : Type 0} → Place → RunFault → Act A
fault place f = halt (Faulted place f)

-- a result, or its fault at this place
abbrev pub give_or : {A : Type 0} → Place → Result A RunFault → Act A
give_or place (Ok x) = give x
give_or place (Err f) = fault place f

-- a result, or its fault where it was met
abbrev pub give_or_met : {A : Type 0} → Result A Failure → Act A
give_or_met (Ok x) = give x
give_or_met (Err failure) = fault failure.place failure.fault

-- nothing where this holds, and else a fault
abbrev pub unless : Bool → Place → RunFault → Act (Unit {0})
unless held place f = if held then give tt else fault place f

-- units of fuel, which are spent before the thing is done; where fewer are left none is spent
unfoldable pub charge : ℕ → Place → Act (Unit {0})
charge units place = λ s. if nat_le units s.fuel then Went tt (record s { fuel = s.fuel - units }) else Halted (SpentAt place) (left s)

-- one after the other, as long as what was made so far goes on

-- over numbers in a row
abbrev pub each_of : {A : Type 0} → (A → Bool) → (ℤ → A → Act A) → List ℤ → A → Act A
each_of more f [] x = give x
each_of more f (v ∷ vs) x = if more x then (λ s. then_do (f v x s) (each_of more f vs)) else give x

-- over so many numbers from this one on
abbrev pub each_from : {A : Type 0} → (A → Bool) → (ℤ → A → Act A) → ℤ → ℕ → A → Act A
each_from more f v zero x = give x
each_from more f v (suc n) x = if more x then (λ s. then_do (f v x s) (each_from more f (v +ℤ pos 1) n)) else give x

-- over a range from its low end, or over a set from its least member
unfoldable pub each_in : {A : Type 0} → (A → Bool) → (ℤ → A → Act A) → Value → A → Act A
each_in more f (Range b) x = each_from more f b.low (size_of b) x
each_in more f (Set xs) x = each_of more f xs x
each_in more f v x = give x

-- what always goes on
abbrev pub always : {A : Type 0} → A → Bool
always x = true
