use Rattle.checked_tree.specs.Tasks.{program_of}
use Rattle.stmt_run.proofs.Ends.{run_ends}
use Rattle.stmt_run.proofs.execution.run.Goals as goal

pub returns-clause-meant : goal.returns-clause-meant
returns-clause-meant g c = rw c.end_of-end.ensures (run_ends (program_of c.args.program.now) _ _ _ _ c.execute-flow.ensures)
