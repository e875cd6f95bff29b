use Rattle.std.specs.Prelude.{map, []}
use Rattle.type_scopes.specs.State.{each}
use Rattle.type_scopes.proofs.Loops.{Runs}
use Rattle.type_statements.specs.Statements.{statement_of, task_form}
use Rattle.type_statements.specs.View.{tasks_of}
use Rattle.type_statements.proofs.blocks.check_tasks.Given as goal

abbrev pub invariant-loop-statement : goal.invariant-loop-statement
invariant-loop-statement g l = Runs (task_form l.scope) statement_of l.all l.statement-index (tasks_of l.tasks) l.checker
    (each (task_form l.scope) (map statement_of l.all) [] l.fn.checker)
