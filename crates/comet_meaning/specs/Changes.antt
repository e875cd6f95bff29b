-- What a commit changes, and which events it queues: for each variable of numbers whose value differs, in order of
-- declaration, each of its handlers, in order of `whenever`, with the old and the new value. A commit before `close`, and
-- one that changes nothing, queue nothing. From the language.
use Rattle.std.specs.Prelude.{ℕ, ℤ, Bool, ◌&&◌, List, [], ◌++◌, filter, filter_map, flat_map, map, Option, Some, None, nat_eq, if◌then◌else◌}
use Rattle.std.specs.List.{range_with_len}
use Rattle.std.specs.Ordering.{int_eq}
use Rattle.comet_meaning.specs.Values.{Value, Number}
use Rattle.comet_meaning.specs.Solvers.{SolverState, variable_count}
use Rattle.comet_meaning.specs.Search.{Handler, Event, Search}
use Rattle.comet_meaning.specs.Outcome.{Went, Act, ◌>>=◌}
use Rattle.comet_meaning.specs.Parts.{solver_at, value_now}

-- a variable of a solver, with its values before and after
pub record Change : Type 0 where
  pub index : ℕ
  pub old : ℤ
  pub new : ℤ

abbrev pub change_between : ℕ → Value → Value → Option Change
change_between x (Number old) (Number new) = if int_eq old new then None else Some (record { index = x; old = old; new = new })
change_between x old new = None

abbrev pub changes_between : SolverState → SolverState → List Change
changes_between m n = filter_map (λ x. change_between x (value_now m x) (value_now n x)) (range_with_len 0 (variable_count m))

-- only of a solver that was closed are values told
abbrev pub changes_of : SolverState → SolverState → List Change
changes_of m n = if m.closed then changes_between m n else []

-- whether a handler is one of the variable with this index in this solver
abbrev pub is_handler_of : ℕ → ℕ → Handler → Bool
is_handler_of k x h = nat_eq h.variable.solver k && nat_eq h.variable.index x

-- the events of one change
abbrev pub events_of : ℕ → List Handler → Change → List Event
events_of k hs c = map (λ h. record { reaction = h.reaction; old = c.old; new = c.new }) (filter (is_handler_of k c.index) hs)

abbrev pub queued_events : ℕ → List Handler → List Change → List Event
queued_events k hs cs = flat_map (events_of k hs) cs

-- events behind those that wait
abbrev pub with_events : List Event → Search → Search
with_events es x = record x { queue = x.queue ++ es }

-- what is new in a solver since it was so
unfoldable pub notice : ℕ → SolverState → Act (Unit {0})
notice k m = λ s. Went tt (record s { search = with_events (queued_events k s.search.handlers (changes_of m (solver_at s k))) s.search })

-- an act on a solver, which queues the events of what it changes
unfoldable pub noticed : ℕ → Act (Unit {0}) → Act (Unit {0})
noticed k act = λ s. (act >>= λ _. notice k (solver_at s k)) s
