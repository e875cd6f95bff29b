use Rattle.std.proofs.Common.{refl, arith}
use Rattle.comet_meaning.proofs.GoingStatements.{goes_level}
use Rattle.comet_meaning.proofs.Rows.{tasks_end, tasks_return, tasks_start, tasks_step}
use Rattle.std.proofs.lemmas.Result.{err_from_is_err_and}
use Rattle.run_steps.proofs.Steps.{tasks_stop}
use Rattle.statement_forms.proofs.statements.execute_all.Goals as goal

pub loop-task-init : goal.loop-task-init
loop-task-init g c = tasks_start _ _ _ _ _ refl

pub returns-in_err-flow : goal.returns-in_err-flow
returns-in_err-flow g c = let p = err_from_is_err_and c.from_residual.result c.from_residual.ensures.1 in record { did = rw (p.1, p.2) (tasks_stop c.loop-task.invariant _ c.loop-task-test.true c.task-item.is (goes_level _ _) _ _ c.in_err-flow.ensures.did) }

pub returns-in-Returned : goal.returns-in-Returned
returns-in-Returned g c = record { did = tasks_return c.loop-task.invariant _ c.loop-task-test.true c.task-item.is (rw c.in-Returned.is at c.in_ok-flow.ensures.did) }

pub loop-task-preserved : goal.loop-task-preserved
loop-task-preserved g c = tasks_step c.loop-task.invariant _ c.loop-task-test.true c.task-item.is (rw c.in-Next.is at c.in_ok-flow.ensures.did)

pub returns : goal.returns
returns g c = record { did = tasks_end c.loop-task.invariant (omega arith) }
