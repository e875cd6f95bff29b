-- What each statement of the tree is without its pointers.
use Rattle.std.proofs.Common.{◌≡◌, sym, ap, ◌∙◌, map, Option, option_map}
use Rattle.std.specs.declared.boxed.Box.{Box}
use Rattle.std.specs.declared.sync.Arc.{Arc}
use Rattle.std.specs.declared.alloc.Global.{Global}
use Rattle.std.specs.declared.vec.Vec.{Vec}
use Rattle.comet_syntax.specs.declared.tree.expressions.Extreme.{Extreme}
use Rattle.comet_syntax.specs.declared.tree.statements.WithMode.{WithMode}
use Rattle.checked_tree.specs.declared.expressions.Slot.{Slot}
use Rattle.checked_tree.specs.declared.expressions.Typed.{Typed}
use Rattle.checked_tree.specs.declared.statements.Action.{Action}
use Rattle.checked_tree.specs.declared.statements.Choice.{Choice}
use Rattle.checked_tree.specs.declared.statements.EventSlots.{EventSlots}
use Rattle.checked_tree.specs.declared.statements.Head.{Head}
use Rattle.checked_tree.specs.declared.statements.Act.TheOpen as layers
use Rattle.checked_tree.specs.declared.statements.Act.TheVariants as trees
use Rattle.checked_tree.specs.declared.statements.Act.TheFolds.{fold-roll-Act}
use Rattle.checked_tree.specs.declared.statements.Task.{Task, fold_out-Task}
use Rattle.checked_tree.specs.Shape.{seen, shape_of_generator}
use Rattle.checked_tree.specs.Actions.{deed_of}
use Rattle.checked_tree.specs.Tasks as works
use Rattle.checked_tree.specs.Tasks.{Work, row_of, counter_of, act_layer, task_layer, work_of, work_of_act}

pub work_of_task : (t : Task) → work_of t ≡ works.task t.place (work_of_act t.act)
unfolding work_of work_of_act
work_of_task t = fold_out-Task Work Work act_layer task_layer t

pub act_action : (a : Action) → work_of_act (trees.Action a) ≡ works.action (deed_of a)
unfolding work_of_act work_of
act_action a = ap work_of_act (sym (trees.rolls-Action a)) ∙ fold-roll-Act Work Work act_layer task_layer (layers.Action a)

pub act_block : (ts : Vec Task Global) → work_of_act (trees.Block ts) ≡ works.block (row_of (map work_of ts.items))
unfolding work_of_act work_of
act_block ts = ap work_of_act (sym (trees.rolls-Block ts)) ∙ fold-roll-Act Work Work act_layer task_layer (layers.Block ts)

pub act_if : (t : Typed) (a : Box Task Global) → work_of_act (trees.If t a) ≡ works.when (seen t) (work_of a.value)
unfolding work_of_act work_of
act_if t a = ap work_of_act (sym (trees.rolls-If t a)) ∙ fold-roll-Act Work Work act_layer task_layer (layers.If t a)

pub act_if_else : (t : Typed) (a b : Box Task Global) → work_of_act (trees.IfElse t a b) ≡ works.when_else (seen t) (work_of a.value) (work_of b.value)
unfolding work_of_act work_of
act_if_else t a b = ap work_of_act (sym (trees.rolls-IfElse t a b)) ∙ fold-roll-Act Work Work act_layer task_layer (layers.IfElse t a b)

pub act_while : (t : Typed) (b : Box Task Global) → work_of_act (trees.While t b) ≡ works.loop (seen t) (work_of b.value)
unfolding work_of_act work_of
act_while t b = ap work_of_act (sym (trees.rolls-While t b)) ∙ fold-roll-Act Work Work act_layer task_layer (layers.While t b)

pub act_for : (h : Box Head Global) (b : Box Task Global) → work_of_act (trees.For h b) ≡ works.counting (option_map counter_of h.value.counter) (option_map seen h.value.test) (option_map deed_of h.value.step) (work_of b.value)
unfolding work_of_act work_of
act_for h b = ap work_of_act (sym (trees.rolls-For h b)) ∙ fold-roll-Act Work Work act_layer task_layer (layers.For h b)

pub act_for_all : (c : Box Choice Global) (b : Box Task Global) → work_of_act (trees.ForAll c b) ≡ works.for_all (map shape_of_generator c.value.generators.items) (option_map seen c.value.condition) (work_of b.value)
unfolding work_of_act work_of
act_for_all c b = ap work_of_act (sym (trees.rolls-ForAll c b)) ∙ fold-roll-Act Work Work act_layer task_layer (layers.ForAll c b)

pub act_select : (c : Box Choice Global) (b : Box Task Global) → work_of_act (trees.Select c b) ≡ works.selecting (map shape_of_generator c.value.generators.items) (option_map seen c.value.condition) (work_of b.value)
unfolding work_of_act work_of
act_select c b = ap work_of_act (sym (trees.rolls-Select c b)) ∙ fold-roll-Act Work Work act_layer task_layer (layers.Select c b)

pub act_select_by : (x : Extreme) (c : Box Choice Global) (k : Box Typed Global) (b : Box Task Global) → work_of_act (trees.SelectBy x c k b) ≡ works.selecting_by x (map shape_of_generator c.value.generators.items) (option_map seen c.value.condition) (seen k.value) (work_of b.value)
unfolding work_of_act work_of
act_select_by x c k b = ap work_of_act (sym (trees.rolls-SelectBy x c k b)) ∙ fold-roll-Act Work Work act_layer task_layer (layers.SelectBy x c k b)

pub act_neighbor : (k : Typed) (s : Slot) (b : Arc (Box Task Global) Global) → work_of_act (trees.Neighbor k s b) ≡ works.submitting (seen k) s (work_of b.value.value)
unfolding work_of_act work_of
act_neighbor k s b = ap work_of_act (sym (trees.rolls-Neighbor k s b)) ∙ fold-roll-Act Work Work act_layer task_layer (layers.Neighbor k s b)

pub act_whenever : (v : Box Typed Global) (ns : Option EventSlots) (b : Arc (Box Task Global) Global) → work_of_act (trees.Whenever v ns b) ≡ works.watching (seen v.value) ns (work_of b.value.value)
unfolding work_of_act work_of
act_whenever v ns b = ap work_of_act (sym (trees.rolls-Whenever v ns b)) ∙ fold-roll-Act Work Work act_layer task_layer (layers.Whenever v ns b)

pub act_with : (m : WithMode) (s : Slot) (b : Box Task Global) → work_of_act (trees.With m s b) ≡ works.at_once m s (work_of b.value)
unfolding work_of_act work_of
act_with m s b = ap work_of_act (sym (trees.rolls-With m s b)) ∙ fold-roll-Act Work Work act_layer task_layer (layers.With m s b)

pub act_parall : (s : Slot) (d : Typed) (b : Box Task Global) → work_of_act (trees.Parall s d b) ≡ works.in_threads s (seen d) (work_of b.value)
unfolding work_of_act work_of
act_parall s d b = ap work_of_act (sym (trees.rolls-Parall s d b)) ∙ fold-roll-Act Work Work act_layer task_layer (layers.Parall s d b)
