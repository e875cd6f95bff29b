-- `whenever`, and what a commit does with the events that it queued: the outermost commit runs all, first in, first out,
-- and those that come while it does; a commit inside a handler only queues its own. A handler sees the names of its
-- `whenever` as they were there, each run of it anew. From the language.
use Rattle.std.specs.Prelude.{Bool, true, false, List, [], ◌∷◌, ◌++◌, length, Option, Some, None, slice_index_or, if◌then◌else◌}
use Rattle.cbl_base.specs.declared.ids.VarId.{VarId}
use Rattle.cbl_base.specs.declared.place.Place.{Place}
use Rattle.checked_tree.specs.declared.statements.EventSlots.{EventSlots}
use Rattle.checked_tree.specs.Shape.{Seen, whole}
use Rattle.checked_tree.specs.Tasks as works
use Rattle.checked_tree.specs.Tasks.{Work}
use Rattle.comet_meaning.specs.Values.{Value, Number, Variable}
use Rattle.comet_meaning.specs.Search.{Closure, Reaction, Event, Search, no_reaction}
use Rattle.comet_meaning.specs.Outcome.{Went, Act, ◌>>=◌, give}
use Rattle.comet_meaning.specs.Cells.{put, in_scope, in_frame}
use Rattle.comet_meaning.specs.Levels.{Level, Flow, Next, Target, Moved}
use Rattle.comet_meaning.specs.Loops.{repeated}

-- statements that run later

-- a statement with the names that it sees now; what is no statement is none
unfoldable pub closed_over : Work → Act (Option Closure)
closed_over (works.task at w) = λ s. Went (Some (record { place = at; work = w; frame = s.frame })) s
closed_over w = give None

-- it runs in a copy of its frame, with further names bound first
unfoldable pub run_closure : Level → Closure → Act (Unit {0}) → Act (Unit {0})
run_closure l c bound = in_scope (in_frame c.frame (bound >>= λ _. l.stmt (works.task c.place c.work) >>= λ flow. give tt))

-- `whenever`

-- one more reaction, and the handler of a variable that it is
abbrev pub with_reaction : VarId → Reaction → Search → Search
with_reaction v r x = record x { reactions = x.reactions ++ r ∷ []; handlers = x.handlers ++ record { variable = v; reaction = length x.reactions } ∷ [] }

abbrev pub attached : Value → Option EventSlots → Option Closure → Act (Unit {0})
attached (Variable x) names (Some c) = λ s. Went tt (record s { search = with_reaction x (record { names = names; closure = c }) s.search })
attached v names c = give tt

unfoldable pub whenever_form : Level → Seen → Option EventSlots → Work → Act Flow
whenever_form l x names body = do
  v ← l.expr (whole x)
  c ← closed_over body
  _ ← attached v names c
  give Next

-- the queue

abbrev pub with_queue : List Event → Search → Search
with_queue es x = record x { queue = es }

unfoldable pub put_queue : List Event → Act (Unit {0})
put_queue es = λ s. Went tt (record s { search = with_queue es s.search })

abbrev pub while_running : Bool → Search → Search
while_running b x = record x { running = b }

unfoldable pub put_running : Bool → Act (Unit {0})
put_running b = λ s. Went tt (record s { search = while_running b s.search })

-- the names of the old and the new value
abbrev pub event_names : Option EventSlots → Event → Act (Unit {0})
event_names None e = give tt
event_names (Some names) e = put names.old (Number e.old) >>= λ _. put names.new (Number e.new)

abbrev pub react : Level → Event → Reaction → Act (Unit {0})
react l e r = run_closure l r.closure (event_names r.names e)

-- the first event is taken off the queue, and what it names runs; without one the queue has been run
abbrev pub first_event : Level → List Event → Act (Option Flow)
first_event l [] = give (Some Next)
first_event l (e ∷ es) = λ s. (do
  _ ← put_queue es
  _ ← react l e (slice_index_or s.search.reactions e.reaction no_reaction)
  give None) s

unfoldable pub next_event : Level → Act (Option Flow)
next_event l = λ s. first_event l s.search.queue s

-- each handler costs a unit at least, so there are no more turns than units
unfoldable pub run_all : Level → Place → Act (Unit {0})
run_all l at = do
  _ ← put_running true
  _ ← repeated at (next_event l)
  put_running false

-- the outermost commit runs the queue
unfoldable pub run_queue : Level → Place → Act (Unit {0})
run_queue l at = λ s. (if s.search.running then give tt else run_all l at) s

-- behind what was assigned to a variable
abbrev pub behind_commit : Level → Place → Target → Act (Unit {0})
behind_commit l at (Moved x) = run_queue l at
behind_commit l at t = give tt
