use Rattle.std.proofs.Common.{map}
use Rattle.comet_meaning.specs.Program.{level}
use Rattle.comet_meaning.proofs.Rows.{TasksLeft}
use Rattle.run_steps.specs.OfRunState.Views.{state_seen}
use Rattle.checked_tree.specs.Tasks.{work_of}
use Rattle.comet_meaning.specs.Loops.{tasks_form}
use Rattle.statement_forms.proofs.statements.execute_all.Given as goal

-- the statements that are left, from here, are all from the start
abbrev pub invariant-loop-task : goal.invariant-loop-task
invariant-loop-task g l =
    TasksLeft (level (g.W.Within.code l.inside) (g.W.Within.depth l.inside)) work_of l.tasks l.task-index (state_seen l.s (g.O.Outside.told l.out)) (tasks_form (level (g.W.Within.code l.inside) (g.W.Within.depth l.inside)) (map work_of l.tasks) (state_seen l.fn.s (g.O.Outside.told l.fn.out)))
