use Rattle.std.proofs.Common.{◌≡◌, map, drop}
use Rattle.checked_tree.specs.Tasks.{row_of, work_of}
use Rattle.comet_meaning.specs.Built.{is_built_work}
use Rattle.program_forms.proofs.tasks.+task.Given as goal

-- what is left decides the whole
abbrev pub invariant-are_built_tasks-loop-task : goal.invariant-are_built_tasks-loop-task
invariant-are_built_tasks-loop-task l = is_built_work (row_of (map work_of (drop l.task-index l.tasks))) ≡ is_built_work (row_of (map work_of l.tasks))
