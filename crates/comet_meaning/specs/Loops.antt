-- Statements in statements: blocks, branches and loops. Each test of a loop costs a unit at its keyword, and each tuple
-- of a `forall` one at the statement. From the language.
use Rattle.std.specs.Prelude.{ℕ, zero, suc, ℤ, Bool, true, false, List, [], ◌∷◌, Option, Some, None, if◌then◌else◌}
use Rattle.cbl_base.specs.declared.place.Place.{Place}
use Rattle.checked_tree.specs.Shape.{Shape, Seen, whole, optional}
use Rattle.checked_tree.specs.Tasks as works
use Rattle.checked_tree.specs.Tasks.{Work, Counted}
use Rattle.comet_meaning.specs.Values.{Number}
use Rattle.comet_meaning.specs.Outcome.{halt, SpentAt, Act, ◌>>=◌, give, charge}
use Rattle.comet_meaning.specs.Cells.{put}
use Rattle.comet_meaning.specs.Levels.{Level, Flow, Next, Returned}
use Rattle.comet_meaning.specs.Parts.{truth, condition, number}
use Rattle.comet_meaning.specs.Generators.{each_tuple}

-- statements in a row

abbrev pub tasks : Work → List Work
tasks (works.more w ws) = w ∷ tasks ws
tasks w = []

-- what follows a statement, unless it returned
abbrev pub then_next : Act Flow → Flow → Act Flow
then_next next Next = next
then_next next (Returned v) = give (Returned v)

unfoldable pub tasks_form : Level → List Work → Act Flow
tasks_form l [] = give Next
tasks_form l (w ∷ ws) = l.stmt w >>= λ flow. then_next (tasks_form l ws) flow

-- `if`

unfoldable pub if_form : Level → Seen → Work → Act Flow
if_form l e a = truth l (whole e) >>= λ t. if t then l.stmt a else give Next

unfoldable pub if_else_form : Level → Seen → Work → Work → Act Flow
if_else_form l e a b = truth l (whole e) >>= λ t. if t then l.stmt a else l.stmt b

-- `while` and `for`

-- what follows a turn: another one, or the end of the loop
abbrev pub end_or : Act Flow → Option Flow → Act Flow
end_or next None = next
end_or next (Some flow) = give flow

-- so many turns at most, each of which ends the loop or doesn't
unfoldable pub turns : Place → Act (Option Flow) → ℕ → Act Flow
turns at turn zero = halt (SpentAt at)
turns at turn (suc n) = turn >>= λ end. end_or (turns at turn n) end

-- each turn costs a unit, so there are no more turns than units
unfoldable pub repeated : Place → Act (Option Flow) → Act Flow
repeated at turn = λ s. turns at turn (suc s.fuel) s

-- what is done behind the body of a turn, unless it returned
abbrev pub behind_body : Act (Unit {0}) → Flow → Act (Option Flow)
behind_body step Next = step >>= λ _. give None
behind_body step (Returned v) = give (Some (Returned v))

-- one turn: the test, the body, and what stands behind it
unfoldable pub turn_form : Level → Place → Shape → Act (Unit {0}) → Work → Act (Option Flow)
turn_form l at test step body = do
  _ ← charge 1 at
  t ← condition l test
  if t then (l.stmt body >>= λ flow. behind_body step flow) else give (Some Next)

unfoldable pub while_form : Level → Place → Seen → Work → Act Flow
while_form l at test body = repeated at (turn_form l at (whole test) (give tt) body)

-- the name that a `for` declares
unfoldable pub counter_form : Level → Option Counted → Act (Unit {0})
counter_form l None = give tt
counter_form l (Some c) = number l (whole c.start) >>= λ z. put c.slot (Number z)

-- a test that is left out holds
unfoldable pub for_form : Level → Place → Option Counted → Option Seen → Act (Unit {0}) → Work → Act Flow
for_form l at c test step body = counter_form l c >>= λ _. repeated at (turn_form l at (optional whole test) step body)

-- `forall`

abbrev pub is_next : Flow → Bool
is_next Next = true
is_next (Returned v) = false

unfoldable pub visited : Level → Shape → Work → ℤ → Flow → Act Flow
visited l c body v flow = condition l c >>= λ t. if t then l.stmt body else give Next

unfoldable pub for_all_form : Level → Place → List Shape → Option Seen → Work → Act Flow
for_all_form l at gs c body = each_tuple l at is_next (visited l (optional whole c) body) [] gs Next
