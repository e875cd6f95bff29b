use Rattle.std.proofs.Common.{◌≡◌, map, drop}
use Rattle.std.specs.List.{list_all}
use Rattle.checked_tree.specs.Tasks.{work_of}
use Rattle.comet_meaning.specs.Built.{is_built_work}
use Rattle.program_forms.proofs.programs.are_built_statements.Given as goal

-- what is left decides the whole
abbrev pub invariant-loop-task : goal.invariant-loop-task
invariant-loop-task l = list_all is_built_work (map work_of (drop l.task-index l.tasks)) ≡ list_all is_built_work (map work_of l.tasks)
