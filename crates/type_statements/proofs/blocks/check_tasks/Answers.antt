use Rattle.std.proofs.Common.{ap, map, List}
use Rattle.checked_tree.specs.declared.statements.Task.{Task}
use Rattle.checked_tree.specs.Tasks.{work_of}
use Rattle.type_scopes.proofs.Loops.{runs_start, runs_step, runs_stop, runs_end, passes}
use Rattle.type_statements.specs.Statements.{statement_of, task_form, tasks_form}
use Rattle.type_statements.proofs.blocks.check_tasks.Goals as goal

pub loop-statement-init : goal.loop-statement-init
loop-statement-init g c = runs_start (task_form c.args.scope) statement_of c.args.all.now _ _ _ (ap (λ (ts : List Task). map work_of ts) c.in_ok-room.ensures)

pub returns-in_err-tasks : goal.returns-in_err-tasks
unfolding tasks_form
returns-in_err-tasks g c = passes _ _ c.in_err-tasks.field-0.0 _ _ c.from_residual-in_err-tasks.ensures.1
    (runs_stop (task_form c.args.scope) statement_of c.args.all.now _ _ _ _ _ _ c.loop-statement.invariant c.loop-statement-test.true c.statement-item.is c.in_err-tasks.ensures)

pub loop-statement-preserved : goal.loop-statement-preserved
loop-statement-preserved g c =
    runs_step (task_form c.args.scope) statement_of c.args.all.now _ _ _ _ _ _ _ c.loop-statement.invariant c.loop-statement-test.true c.statement-item.is c.in_ok-tasks.ensures

pub returns : goal.returns
unfolding tasks_form
returns g c = runs_end (task_form c.args.scope) statement_of c.args.all.now _ _ _ _ c.loop-statement.invariant c.loop-statement-test.false
