-- A run goes onward: no part of a program takes back what was printed, and none gives back fuel. A rule of this project.
use Rattle.std.specs.Prelude.{◌≡◌, ◌≤◌, List, ◌++◌}
use Rattle.comet_meaning.specs.State.{State, Left, left}
use Rattle.comet_meaning.specs.Outcome.{Outcome, Went, Halted, Act}

-- a list begins with another
abbrev pub IsFront : {A : Type 0} → List A → List A → Type 0
IsFront {A} front xs = (rest : List A) × (xs ≡ front ++ rest)

pub record IsOnward (before after : Left) : Type 0 where
  pub fuel : after.fuel ≤ before.fuel
  pub printed : IsFront before.printed after.printed

-- what a part leaves, also where it halts the run
abbrev pub left_by : {A : Type 0} → Outcome A → Left
left_by (Went x s) = left s
left_by (Halted h t) = t

-- a part goes onward from each state
pub record GoesOn {A : Type 0} (m : Act A) : Type 0 where
  pub from : (s : State) → IsOnward (left s) (left_by (m s))
