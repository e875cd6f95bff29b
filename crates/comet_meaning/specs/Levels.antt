-- What the meaning of a part is given by: the functions of the program, and the meanings of the parts in it, which are
-- one level further in. A rule of this project.
use Rattle.std.specs.Prelude.{ℕ, Bool, List, Option}
use Rattle.checked_tree.specs.Shape.{Shape}
use Rattle.checked_tree.specs.Tasks.{Work, Coded}
use Rattle.checked_tree.specs.declared.expressions.Slot.{Slot}
use Rattle.cbl_base.specs.declared.ids.VarId.{VarId}
use Rattle.comet_meaning.specs.Values.{Value}
use Rattle.comet_meaning.specs.Terms.{InTerm}
use Rattle.comet_meaning.specs.Outcome.{Act}

-- the functions of a program, and for each whether it is pure
pub record Code : Type 0 where
  pub functions : List Coded
  pub pure : List Bool

-- how a statement ends: the next one follows, or the call returns, with a value or without
pub data Flow : Type 0 where
  Next : Flow
  Returned : Option Value → Flow

-- what is written: a name's cell, a cell of an array, or a variable
pub data Target : Type 0 where
  Nowhere : Target
  Name : Slot → Target
  Element : ℕ → ℕ → Target
  Moved : VarId → Target

pub record Level : Type 0 where
  -- the value of an expression; of a variable the variable itself
  pub expr : Shape → Act Value
  -- what an expression stands for where it is written
  pub target : Shape → Act Target
  -- what an expression stands for in a term
  pub term : Shape → Act InTerm
  -- what a statement does
  pub stmt : Work → Act Flow
