-- What a statement does, one layer of it: a unit at its place, and then its form. From the language.
use Rattle.std.specs.Prelude.{Option, Some, None}
use Rattle.cbl_base.specs.declared.place.Place.{Place}
use Rattle.checked_tree.specs.Shape.{Seen, whole}
use Rattle.checked_tree.specs.Actions as deeds
use Rattle.checked_tree.specs.Actions.{Deed}
use Rattle.checked_tree.specs.Tasks as works
use Rattle.checked_tree.specs.Tasks.{Work}
use Rattle.comet_meaning.specs.Outcome.{Act, ◌>>=◌, give, charge}
use Rattle.comet_meaning.specs.Levels.{Level, Flow, Next, Returned}
use Rattle.comet_meaning.specs.Parts.{value}
use Rattle.comet_meaning.specs.Writes.{write_form, swap_form, step_form}
use Rattle.comet_meaning.specs.Declarations.{scalar_form, array_form, object_form}
use Rattle.comet_meaning.specs.Variables.{variable_form}
use Rattle.comet_meaning.specs.Blocks.{together_form}
use Rattle.comet_meaning.specs.Printing.{print_form}
use Rattle.comet_meaning.specs.Selection.{select_form, select_by_form}
use Rattle.comet_meaning.specs.Moves.{neighbor_form, choose_form}
use Rattle.comet_meaning.specs.Events.{whenever_form}
use Rattle.comet_meaning.specs.Loops.{tasks, tasks_form, if_form, if_else_form, while_form, for_form, for_all_form}

-- a statement that is an expression: its value is read and dropped
unfoldable pub alone_form : Level → Seen → Act (Unit {0})
alone_form l e = value l (whole e) >>= λ v. give tt

-- what a statement at this place does that holds no statement, and doesn't return; what isn't there yet does nothing
unfoldable pub deed_form : Level → Place → Deed → Act (Unit {0})
deed_form l at deeds.nothing = give tt
deed_form l at (deeds.declaring slot k e) = scalar_form l at slot k e
deed_form l at (deeds.declaring_array slot k sizes start) = array_form l at slot sizes start
deed_form l at (deeds.declaring_variable v) = variable_form l at v
deed_form l at (deeds.making slot k es) = object_form l at slot k es
deed_form l at (deeds.writing o t e) = write_form l at o t e
deed_form l at (deeds.swapping a b) = swap_form l at a b
deed_form l at (deeds.stepping x t) = step_form l at x t
deed_form l at (deeds.doing e) = alone_form l e
deed_form l at (deeds.choosing e) = choose_form l e
deed_form l at (deeds.printing xs) = print_form l xs
deed_form l at d = give tt

-- `return`
unfoldable pub return_form : Level → Option Seen → Act Flow
return_form l None = give (Returned None)
return_form l (Some e) = value l (whole e) >>= λ v. give (Returned (Some v))

unfoldable pub action_form : Level → Place → Deed → Act Flow
action_form l at (deeds.returning e) = return_form l e
action_form l at d = deed_form l at d >>= λ _. give Next

-- the step of a `for` stands at the `for`
abbrev pub step_of : Level → Place → Option Deed → Act (Unit {0})
step_of l at None = give tt
step_of l at (Some d) = deed_form l at d

-- a statement at this place, by its form; what isn't there yet does nothing
unfoldable pub meaning_of_form : Level → Place → Work → Act Flow
meaning_of_form l at (works.action d) = action_form l at d
meaning_of_form l at (works.block ws) = tasks_form l (tasks ws)
meaning_of_form l at (works.when e a) = if_form l e a
meaning_of_form l at (works.when_else e a b) = if_else_form l e a b
meaning_of_form l at (works.loop test body) = while_form l at test body
meaning_of_form l at (works.counting c test step body) = for_form l at c test (step_of l at step) body
meaning_of_form l at (works.for_all gs c body) = for_all_form l at gs c body
meaning_of_form l at (works.selecting gs c body) = select_form l at gs c body
meaning_of_form l at (works.selecting_by x gs c key body) = select_by_form l at x gs c key body
meaning_of_form l at (works.submitting e slot body) = neighbor_form l e slot body
meaning_of_form l at (works.watching x names body) = whenever_form l x names body
meaning_of_form l at (works.at_once mode slot body) = together_form l at slot body
meaning_of_form l at w = give Next

-- the place of a statement
abbrev pub work_place : Work → Place
work_place (works.task at w) = at
work_place w = record { line = 0; col = 0 }

unfoldable pub meaning_of_statement : Level → Work → Act Flow
meaning_of_statement l (works.task at w) = charge 1 at >>= λ _. meaning_of_form l at w
meaning_of_statement l w = give Next
