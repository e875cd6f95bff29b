-- The state of a run: the cells of the global names and of those of the running call; the arrays of numbers and of
-- variables, and the objects; the moves that are kept, and what else a search keeps; the users' constraints; how much fuel
-- is left; and what was printed. The frames of the calls that wait are kept by these calls, and how many statements and
-- expressions are being executed inside each other is told by the level of the meaning that is asked. From the language.
use Rattle.std.specs.Prelude.{ℕ, ℤ, List, [], Option}
use Rattle.cbl_base.specs.declared.ids.VarId.{VarId}
use Rattle.comet_meaning.specs.Values.{Value, Bounds}
use Rattle.comet_meaning.specs.Solvers.{SolverState}
use Rattle.comet_meaning.specs.Search.{KeptMove, Search, first_search}
use Rattle.comet_meaning.specs.Users.{User}

-- an array of numbers with one dimension or two, row by row
pub record Cells : Type 0 where
  pub rows : Bounds
  pub columns : Option Bounds
  pub numbers : List ℤ

-- an array of variables in the same way
pub record VariableCells : Type 0 where
  pub rows : Bounds
  pub columns : Option Bounds
  pub variables : List VarId

pub record State : Type 0 where
  pub globals : List Value
  pub frame : List Value
  pub arrays : List Cells
  pub variable_arrays : List VariableCells
  pub solvers : List SolverState
  -- what each `InputFile` has not read yet
  pub inputs : List (List ℕ)
  pub data_text : List ℕ
  -- what each `MinNeighborSelector` keeps
  pub moves : List (Option KeptMove)
  pub search : Search
  -- all that were handed in, in their order
  pub users : List User
  pub fuel : ℕ
  pub printed : List ℕ

-- what is told of a state at which a run halts
pub record Left : Type 0 where
  pub fuel : ℕ
  pub printed : List ℕ

abbrev pub left : State → Left
left s = record { fuel = s.fuel; printed = s.printed }

-- the state at the start of a run, with this seed, this fuel, this data and these users' constraints
abbrev pub first_state : ℕ → ℕ → List ℕ → List User → State
first_state seed fuel text users = record {
  globals = [];
  frame = [];
  arrays = [];
  variable_arrays = [];
  solvers = [];
  inputs = [];
  data_text = text;
  moves = [];
  search = first_search seed;
  users = users;
  fuel = fuel;
  printed = [];
}
