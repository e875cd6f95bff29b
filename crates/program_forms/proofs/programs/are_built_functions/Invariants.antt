use Rattle.std.proofs.Common.{◌≡◌, map, drop}
use Rattle.std.specs.List.{list_all}
use Rattle.checked_tree.specs.Tasks.{function_of}
use Rattle.comet_meaning.specs.Built.{is_built_function}
use Rattle.program_forms.proofs.programs.are_built_functions.Given as goal

-- what is left decides the whole
abbrev pub invariant-loop-function : goal.invariant-loop-function
invariant-loop-function l = list_all is_built_function (map function_of (drop l.function-index l.functions)) ≡ list_all is_built_function (map function_of l.functions)
