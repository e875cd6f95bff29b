-- Checked statements, functions and programs, without their pointers.
use Rattle.std.specs.Prelude.{ℕ, List, [], ◌∷◌, map, Option, option_map}
use Rattle.cbl_base.specs.declared.place.Place.{Place}
use Rattle.comet_syntax.specs.declared.tree.expressions.Extreme.{Extreme}
use Rattle.comet_syntax.specs.declared.tree.statements.WithMode.{WithMode}
use Rattle.checked_tree.specs.declared.kind.Kind.{Kind}
use Rattle.checked_tree.specs.declared.expressions.Slot.{Slot}
use Rattle.checked_tree.specs.declared.statements.Counter.{Counter}
use Rattle.checked_tree.specs.declared.statements.EventSlots.{EventSlots}
use Rattle.checked_tree.specs.declared.statements.Act.{Act}
use Rattle.checked_tree.specs.declared.statements.Act.TheOpen as acts
use Rattle.checked_tree.specs.declared.statements.Act.TheFolds.{fold-Act}
use Rattle.checked_tree.specs.declared.statements.Task.{Task, fold-Task}
use Rattle.checked_tree.specs.declared.statements.Function.{Function}
use Rattle.checked_tree.specs.declared.statements.Checked.{Checked}
use Rattle.checked_tree.specs.Shape.{Shape, Seen, seen, shape_of_generator}
use Rattle.checked_tree.specs.Actions.{Deed, deed_of}

-- the cell of the name that a `for` declares, and its first value
pub record Counted : Type 0 where
  pub slot : Slot
  pub start : Seen

-- a statement, what it does, or statements in a row
pub data Work : Type 0 where
  no_more : Work
  more : Work → Work → Work
  task : Place → Work → Work
  action : Deed → Work
  block : Work → Work
  when : Seen → Work → Work
  when_else : Seen → Work → Work → Work
  loop : Seen → Work → Work
  counting : Option Counted → Option Seen → Option Deed → Work → Work
  for_all : List Shape → Option Seen → Work → Work
  selecting : List Shape → Option Seen → Work → Work
  selecting_by : Extreme → List Shape → Option Seen → Seen → Work → Work
  submitting : Seen → Slot → Work → Work
  watching : Seen → Option EventSlots → Work → Work
  at_once : WithMode → Slot → Work → Work
  in_threads : Slot → Seen → Work → Work

-- the name that a `for` declares, as the tree has it
abbrev pub counter_of : Counter → Counted
counter_of c = record { slot = c.slot; start = seen c.start }

-- a list of statements, as one part
abbrev pub row_of : List Work → Work
row_of [] = no_more
row_of (x ∷ xs) = more x (row_of xs)

-- what a statement does, by what the statements in it are
abbrev pub act_layer : acts.Act-F Work Work → Work
act_layer (acts.Action a) = action (deed_of a)
act_layer (acts.Block ts) = block (row_of ts.items)
act_layer (acts.If t a) = when (seen t) a.value
act_layer (acts.IfElse t a b) = when_else (seen t) a.value b.value
act_layer (acts.While t b) = loop (seen t) b.value
act_layer (acts.For h b) = counting (option_map counter_of h.value.counter) (option_map seen h.value.test) (option_map deed_of h.value.step) b.value
act_layer (acts.ForAll c b) = for_all (map shape_of_generator c.value.generators.items) (option_map seen c.value.condition) b.value
act_layer (acts.Select c b) = selecting (map shape_of_generator c.value.generators.items) (option_map seen c.value.condition) b.value
act_layer (acts.SelectBy x c k b) = selecting_by x (map shape_of_generator c.value.generators.items) (option_map seen c.value.condition) (seen k.value) b.value
act_layer (acts.Neighbor k s b) = submitting (seen k) s b.value.value
act_layer (acts.Whenever v ns b) = watching (seen v.value) ns b.value.value
act_layer (acts.With m s b) = at_once m s b.value
act_layer (acts.Parall s d b) = in_threads s (seen d) b.value

-- a statement, by what it does
abbrev pub task_layer : acts.Task-F Work Work → Work
task_layer t = task t.place t.act

-- what a statement of the tree does, without its pointers
unfoldable pub work_of_act : Act → Work
work_of_act = fold-Act Work Work act_layer task_layer

-- a statement of the tree without its pointers
unfoldable pub work_of : Task → Work
work_of = fold-Task Work Work act_layer task_layer

-- a function
pub record Coded : Type 0 where
  pub place : Place
  pub name : List ℕ
  pub result : Kind
  pub parameters : List Kind
  pub body : Work

-- a function of the tree without its pointers
abbrev pub function_of : Function → Coded
function_of f = record { place = f.place; name = f.name; result = f.result; parameters = f.parameters.items; body = work_of f.body }

-- a program
pub record Whole : Type 0 where
  pub functions : List Coded
  pub tasks : List Work

-- a program of the tree without its pointers
abbrev pub program_of : Checked → Whole
program_of p = record { functions = map function_of p.functions.items; tasks = map work_of p.tasks.items }
