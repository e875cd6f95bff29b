-- Parts of forms of a search: a statement that is given to a selector, or attached to a variable, with the names that it
-- sees now; and changes that are queued. From the language.
use Rattle.std.specs.Prelude.{ℕ, ℤ, List, Option}
use Rattle.checked_tree.specs.Tasks.{Work}
use Rattle.checked_tree.specs.declared.statements.EventSlots.{EventSlots}
use Rattle.comet_meaning.specs.Changes.{Change, queued_events, with_events}
use Rattle.comet_meaning.specs.Events.{attached, closed_over}
use Rattle.comet_meaning.specs.Moves.{submitted_to}
use Rattle.comet_meaning.specs.Outcome.{Act, Went, ◌>>=◌}
use Rattle.comet_meaning.specs.Values.{Value}

-- a statement with its delta
abbrev pub submitted : ℤ → Value → Work → Act (Unit {0})
submitted z v body = closed_over body >>= submitted_to z v

-- a handler of a variable
abbrev pub watched : Value → Option EventSlots → Work → Act (Unit {0})
watched v names body = closed_over body >>= attached v names

-- the events of changes of the solver with a number
abbrev pub queued : ℕ → List Change → Act (Unit {0})
queued k cs = λ s. Went tt (record s { search = with_events (queued_events k s.search.handlers cs) s.search })
