-- A loop is its first turn, and then the loop again where that turn doesn't end it: the bound on the turns is never met,
-- since each turn costs a unit.
use Rattle.std.proofs.Common.{◌≡◌, refl, ℕ, zero, suc, ◌≤◌, ◌<◌, ◌-◌, Bool, true, false, List, nat_le, Option, Some, None, if◌then◌else◌, rules, arith}
use Rattle.cbl_base.specs.declared.place.Place.{Place}
use Rattle.checked_tree.specs.Shape.{Shape, Seen, whole}
use Rattle.checked_tree.specs.Tasks.{Work, Coded}
use Rattle.comet_meaning.specs.State.{State, left}
use Rattle.comet_meaning.specs.Outcome.{Outcome, Went, Halted, SpentAt, Act, then_do, ◌>>=◌, give, charge}
use Rattle.comet_meaning.specs.Levels.{Level, Flow}
use Rattle.comet_meaning.specs.Loops.{end_or, turns, repeated, turn_form, while_form}
use Rattle.comet_meaning.specs.Onward.{IsOnward, left_by, GoesOn}
use Rattle.comet_meaning.specs.Program.{level, code_of}
use Rattle.comet_meaning.proofs.GoingOn.{goes_then, goes_give, goes_if}
use Rattle.comet_meaning.proofs.GoingParts.{LevelGoesOn, goes_condition}
use Rattle.comet_meaning.proofs.GoingStatements.{goes_behind_body, goes_level}

-- where it goes on, there is less fuel
abbrev pub IsLess : {A : Type 0} → State → Outcome A → Type 0
IsLess s (Went x t) = t.fuel < s.fuel
IsLess s (Halted h t) = Unit {0}

pub record TakesFuel {A : Type 0} (m : Act A) : Type 0 where
  pub from : (s : State) → IsLess s (m s)

less_behind : {A : Type 0} (s : State) (fuel : ℕ) (o : Outcome A) → IsOnward (record { fuel = fuel; printed = s.printed }) (left_by o) → fuel < s.fuel → IsLess s o
less_behind s fuel (Went x t) h k = let le : t.fuel ≤ fuel = h.fuel in omega arith
less_behind s fuel (Halted e t) h k = tt

charged_less : {A : Type 0} (s : State) (at : Place) (f : Unit {0} → Act A) → ((x : Unit {0}) → GoesOn (f x)) → (b : Bool) → nat_le 1 s.fuel ≡ b → IsLess s (then_do (if b then Went tt (record s { fuel = s.fuel - 1 }) else Halted (SpentAt at) (left s)) f)
charged_less s at f k true e = less_behind s (s.fuel - 1) _ ((k tt).from (record s { fuel = s.fuel - 1 })) (let one : 1 ≤ s.fuel = search rules in omega arith)
charged_less s at f k false e = tt

pub takes_charge : {A : Type 0} (at : Place) (f : Unit {0} → Act A) → ((x : Unit {0}) → GoesOn (f x)) → TakesFuel (charge 1 at >>= f)
unfolding charge
takes_charge at f k = record { from = λ s. charged_less s at f k (nat_le 1 s.fuel) refl }

pub takes_turn : (l : Level) → LevelGoesOn l → (at : Place) (test : Shape) {step : Act (Unit {0})} → GoesOn step → (body : Work) → TakesFuel (turn_form l at test step body)
unfolding turn_form
takes_turn l h at test k body =
    takes_charge at _ (λ _. goes_then (goes_condition l h test) (λ t. goes_if t (goes_then (h.stmt body) (λ flow. goes_behind_body k flow)) goes_give))

-- where another turn follows, there is less fuel
abbrev pub IsLessBefore : State → Outcome (Option Flow) → Type 0
IsLessBefore s (Went None t) = t.fuel < s.fuel
IsLessBefore s (Went (Some flow) t) = Unit {0}
IsLessBefore s (Halted h t) = Unit {0}

pub record TurnTakesFuel (turn : Act (Option Flow)) : Type 0 where
  pub from : (s : State) → IsLessBefore s (turn s)

pub turn_takes : {turn : Act (Option Flow)} → TakesFuel turn → TurnTakesFuel turn
turn_takes {turn} k = record { from = λ s. before s (turn s) (k.from s) } where
  before : (s : State) (o : Outcome (Option Flow)) → IsLess s o → IsLessBefore s o
  before s (Went None t) h = h
  before s (Went (Some flow) t) h = tt
  before s (Halted e t) h = tt

-- more turns than there is fuel make no difference
turns_same : (at : Place) (turn : Act (Option Flow)) → TurnTakesFuel turn → (n m : ℕ) (s : State) → s.fuel < n → s.fuel < m → turns at turn n s ≡ turns at turn m s
unfolding turns
turns_same at turn k zero m s p q = absurd (omega arith)
turns_same at turn k (suc n) zero s p q = absurd (omega arith)
turns_same at turn k (suc n) (suc m) s p q = same (turn s) (k.from s) (λ t v w. turns_same at turn k n m t v w) where
  same : (o : Outcome (Option Flow)) → IsLessBefore s o → ((t : State) → t.fuel < n → t.fuel < m → turns at turn n t ≡ turns at turn m t) → then_do o (λ end. end_or (turns at turn n) end) ≡ then_do o (λ end. end_or (turns at turn m) end)
  same (Went None t) h again = again t (omega arith) (omega arith)
  same (Went (Some flow) t) h again = refl
  same (Halted e t) h again = refl

pub repeats_again : (at : Place) (turn : Act (Option Flow)) → TurnTakesFuel turn → (s : State) → repeated at turn s ≡ then_do (turn s) (end_or (repeated at turn))
unfolding repeated turns
repeats_again at turn k s = same (turn s) (k.from s) where
  same : (o : Outcome (Option Flow)) → IsLessBefore s o → then_do o (λ end. end_or (turns at turn s.fuel) end) ≡ then_do o (end_or (repeated at turn))
  same (Went None t) h = turns_same at turn k s.fuel (suc t.fuel) t (omega arith) (omega arith)
  same (Went (Some flow) t) h = refl
  same (Halted e t) h = refl

pub repeated_again : (at : Place) (turn : Act (Option Flow)) → TakesFuel turn → (s : State) → repeated at turn s ≡ then_do (turn s) (end_or (repeated at turn))
repeated_again at turn k s = repeats_again at turn (turn_takes k) s

pub while_again : (functions : List Coded) (room : ℕ) (at : Place) (test : Seen) (body : Work) (s : State) → while_form (level (code_of functions) room) at test body s ≡ then_do (turn_form (level (code_of functions) room) at (whole test) (give tt) body s) (end_or (while_form (level (code_of functions) room) at test body))
unfolding while_form
while_again functions room at test body s =
    repeated_again at _ (takes_turn (level (code_of functions) room) (goes_level (code_of functions) room) at (whole test) goes_give body) s
