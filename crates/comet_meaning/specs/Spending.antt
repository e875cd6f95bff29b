-- A pure expression changes nothing of the state but the fuel, and prints nothing; and it sees nothing of the data, of the
-- users' constraints, of what was printed, and of what a search keeps beside its moves. What stands in an aggregate binds
-- names of the frame besides. A rule of this project.
use Rattle.std.specs.Prelude.{◌≡◌, ℕ, List}
use Rattle.comet_meaning.specs.Search.{Search}
use Rattle.comet_meaning.specs.Users.{User}
use Rattle.comet_meaning.specs.State.{State}
use Rattle.comet_meaning.specs.Outcome.{Outcome, Went, Halted, Act}

abbrev pub IsSpent : {A : Type 0} → State → Outcome A → Type 0
IsSpent s (Went x t) = t ≡ record s { fuel = t.fuel }
IsSpent s (Halted h t) = t.printed ≡ s.printed

abbrev pub IsBound : {A : Type 0} → State → Outcome A → Type 0
IsBound s (Went x t) = t ≡ record s { fuel = t.fuel; frame = t.frame }
IsBound s (Halted h t) = t.printed ≡ s.printed

-- the data, what each `InputFile` has not read of it yet, words, solutions, handlers and events, the users' constraints, and
-- what was printed
pub record Outside : Type 0 where
  pub inputs : List (List ℕ)
  pub data_text : List ℕ
  pub search : Search
  pub users : List User
  pub printed : List ℕ

-- a state with these in place of its own
abbrev pub with_outside : Outside → State → State
with_outside o s = record s { inputs = o.inputs; data_text = o.data_text; search = o.search; users = o.users; printed = o.printed }

-- an outcome that leaves these
abbrev pub leaving : {A : Type 0} → Outside → Outcome A → Outcome A
leaving o (Went x t) = Went x (with_outside o t)
leaving o (Halted h t) = Halted h (record t { printed = o.printed })

-- a part does the same whatever these are
abbrev pub SeesInside : {A : Type 0} → Act A → Type 0
SeesInside m = (o : Outside) (s : State) → m (with_outside o s) ≡ leaving o (m s)

-- a part changes nothing but the fuel
pub record OnlySpends {A : Type 0} (m : Act A) : Type 0 where
  pub from : (s : State) → IsSpent s (m s)
  pub inside : SeesInside m

-- a part changes nothing but the fuel and the frame
pub record OnlyBinds {A : Type 0} (m : Act A) : Type 0 where
  pub from : (s : State) → IsBound s (m s)
  pub inside : SeesInside m
