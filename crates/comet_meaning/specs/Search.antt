-- What a search keeps beside names, arrays and solvers: solutions, moves, handlers, and the events that wait for their
-- handlers. A statement that runs later keeps a copy of the names of the call that it stands in: numbers, truth values,
-- ranges and sets are copied, arrays and objects are known by their numbers. From the language.
use Rattle.std.specs.Prelude.{ℕ, ℤ, Bool, false, List, [], Option, None}
use Rattle.rand_pcg.specs.Lcg.{Lcg}
use Rattle.cbl_base.specs.declared.ids.VarId.{VarId}
use Rattle.cbl_base.specs.declared.place.Place.{Place}
use Rattle.checked_tree.specs.declared.statements.EventSlots.{EventSlots}
use Rattle.checked_tree.specs.Tasks.{Work, no_more}
use Rattle.comet_meaning.specs.Values.{Value}
use Rattle.comet_meaning.specs.Words.{words_of, main_stream}

-- a statement that runs later: its place, what it does, and the names that it sees
pub record Closure : Type 0 where
  pub place : Place
  pub work : Work
  pub frame : List Value

-- the best move that a selector was given, with its delta
pub record KeptMove : Type 0 where
  pub delta : ℤ
  pub closure : Closure

-- a solution: the numbers of the free variables of a solver
pub record Snapshot : Type 0 where
  pub solver : ℕ
  pub values : List ℤ

-- what `whenever` makes of its statement, with the cells of the old and the new value
pub record Reaction : Type 0 where
  pub names : Option EventSlots
  pub closure : Closure

-- a variable, and the number of what runs when its value changes
pub record Handler : Type 0 where
  pub variable : VarId
  pub reaction : ℕ

-- what is to run, by its number, and what it is told
pub record Event : Type 0 where
  pub reaction : ℕ
  pub old : ℤ
  pub new : ℤ

-- What no pure expression sees. Reactions and handlers stand in the order of `whenever`, events in that of their commits.
pub record Search : Type 0 where
  pub seed : ℕ
  -- the words that are still to come
  pub words : Lcg
  pub solutions : List Snapshot
  pub reactions : List Reaction
  pub handlers : List Handler
  pub queue : List Event
  -- whether a commit is running the queue
  pub running : Bool

-- the start of a run with this seed
abbrev pub first_search : ℕ → Search
first_search seed = record {
  seed = seed;
  words = words_of seed main_stream;
  solutions = [];
  reactions = [];
  handlers = [];
  queue = [];
  running = false;
}

-- a statement that does nothing
abbrev pub no_closure : Closure
no_closure = record { place = record { line = 0; col = 0 }; work = no_more; frame = [] }

abbrev pub no_reaction : Reaction
no_reaction = record { names = None; closure = no_closure }
