-- Neighborhoods: `neighbor` gives a selector a statement with a delta, and the selector keeps it where it has none or the
-- new delta is less. `call` runs what is kept, as often as it is called; it sees the names of its `neighbor` as they were
-- there, each run of it anew. From the language.
use Rattle.std.specs.Prelude.{ℕ, ℤ, Bool, true, [], ◌∷◌, ◌++◌, length, Option, Some, None, is_some, int_lt, slice_index_or, slice_set, if◌then◌else◌}
use Rattle.cbl_base.specs.declared.place.Place.{Place}
use Rattle.cbl_base.specs.declared.faults.RunFault.TheVariants.{NoMove}
use Rattle.checked_tree.specs.declared.expressions.Slot.{Slot}
use Rattle.checked_tree.specs.Shape.{Seen, whole}
use Rattle.checked_tree.specs.Tasks.{Work}
use Rattle.comet_meaning.specs.Values.{Value, Nothing, Truth, Selector, Move}
use Rattle.comet_meaning.specs.Search.{Closure, KeptMove}
use Rattle.comet_meaning.specs.State.{State}
use Rattle.comet_meaning.specs.Outcome.{Went, Act, ◌>>=◌, give, unless}
use Rattle.comet_meaning.specs.Cells.{look}
use Rattle.comet_meaning.specs.Levels.{Level, Flow, Next}
use Rattle.comet_meaning.specs.Parts.{value, number}
use Rattle.comet_meaning.specs.Events.{closed_over, run_closure}

-- a new selector, which keeps nothing
unfoldable pub make_selector : Act Value
make_selector = λ s. Went (Selector (length s.moves)) (record s { moves = s.moves ++ None ∷ [] })

-- the move that a selector keeps
abbrev pub kept_in : State → ℕ → Option KeptMove
kept_in s n = slice_index_or s.moves n None

-- `neighbor`

abbrev pub is_better : ℤ → Option KeptMove → Bool
is_better z None = true
is_better z (Some m) = int_lt z m.delta

abbrev pub put_move : ℕ → KeptMove → Act (Unit {0})
put_move n m = λ s. Went tt (record s { moves = slice_set s.moves n (Some m) })

abbrev pub submitted_to : ℤ → Value → Option Closure → Act (Unit {0})
submitted_to z (Selector n) (Some c) = λ s. (if is_better z (kept_in s n) then put_move n (record { delta = z; closure = c }) else give tt) s
submitted_to z v c = give tt

unfoldable pub neighbor_form : Level → Seen → Slot → Work → Act Flow
neighbor_form l e slot body = do
  z ← number l (whole e)
  v ← look slot
  c ← closed_over body
  _ ← submitted_to z v c
  give Next

-- `hasMove` and `getMove`

unfoldable pub has_move : Value → Act Value
has_move (Selector n) = λ s. Went (Truth (is_some (kept_in s n))) s
has_move v = give Nothing

unfoldable pub get_move : Place → Value → Act Value
get_move at (Selector n) = λ s. (unless (is_some (kept_in s n)) at NoMove >>= λ _. give (Move n)) s
get_move at v = give Nothing

-- `call`

abbrev pub run_move : Level → Option KeptMove → Act (Unit {0})
run_move l None = give tt
run_move l (Some m) = run_closure l m.closure (give tt)

unfoldable pub called_move : Level → Value → Act (Unit {0})
called_move l (Move n) = λ s. run_move l (kept_in s n) s
called_move l v = give tt

unfoldable pub choose_form : Level → Seen → Act (Unit {0})
choose_form l e = value l (whole e) >>= called_move l
