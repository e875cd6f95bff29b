-- The answer of a part that changes nothing but the fuel: a call whose arguments are plain numbers and whose body is a
-- `return` of a plain number, and a chain with such calls. A rule of this project.
use Rattle.std.specs.Prelude.{◌≡◌, ℤ, List, map, Option, Some, None}
use Rattle.std.specs.declared.alloc.Global.{Global}
use Rattle.std.specs.declared.vec.Vec.{Vec}
use Rattle.cbl_base.specs.declared.place.Place.{Place}
use Rattle.checked_tree.specs.Actions.{Deed, returning}
use Rattle.checked_tree.specs.Shape.{Seen}
use Rattle.checked_tree.specs.Tasks.{Work, task, block, more, no_more, action}
use Rattle.comet_meaning.specs.Values.{Value, Number}
use Rattle.comet_meaning.specs.State.{State}
use Rattle.comet_meaning.specs.Outcome.{Outcome, Went}
use Rattle.run_values.specs.declared.values.Value.{Value as declared}
use Rattle.run_values.specs.Views.{value_seen}
use Rattle.run_steps.specs.Plainly.{GivesNumber}

-- a state that differs from the first one in the fuel alone
abbrev pub IsSpent : State → State → Type 0
IsSpent s t = record t { fuel = s.fuel } ≡ s

-- the part's number, and then the fuel is that behind the part; where nothing is answered, some of it may be gone
pub record Spends (found : Option ℤ) (s t : State) (o : Outcome Value) : Type 0 where
  pub spent : IsSpent s t
  pub gives : GivesNumber found t o

-- the same, but where nothing is answered the state is as it was
abbrev pub TakesFuel : Option ℤ → State → State → Outcome Value → Type 0
TakesFuel None s t o = t ≡ s
TakesFuel (Some z) s t o = o ≡ Went (Number z) t

-- values of which each is a number
pub record AreNumbers (vs : List Value) : Type 0 where
  pub numbers : List ℤ
  pub are : vs ≡ map Number numbers

-- arguments that are plain numbers
pub record Arguments (vs : List Value) (s : State) (o : Outcome (List Value)) : Type 0 where
  pub plain : AreNumbers vs
  pub gives : o ≡ Went vs s

abbrev pub GivesNumbers : Option (Vec declared Global) → State → Outcome (List Value) → Type 0
GivesNumbers None s o = Unit {0}
GivesNumbers (Some vs) s o = Arguments (map value_seen vs.items) s o

-- a `return` of this value
abbrev pub IsReturn : Option Seen → Deed → Type 0
IsReturn None d = Unit {0}
IsReturn (Some e) d = d ≡ returning (Some e)

-- a block of such a `return` alone
abbrev pub alone : Place → Place → Seen → Work
alone at behind e = task at (block (more (task behind (action (returning (Some e)))) no_more))

pub record Alone (e : Seen) (w : Work) : Type 0 where
  pub block_at : Place
  pub return_at : Place
  pub is : w ≡ alone block_at return_at e

abbrev pub IsAlone : Option Seen → Work → Type 0
IsAlone None w = Unit {0}
IsAlone (Some e) w = Alone e w
