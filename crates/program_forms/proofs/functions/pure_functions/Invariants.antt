use Rattle.std.proofs.Common.{◌≡◌, map, drop}
use Rattle.checked_tree.specs.Tasks.{function_of}
use Rattle.comet_meaning.specs.Purity.{pure_behind, pure_functions}
use Rattle.program_forms.proofs.functions.pure_functions.Given as goal

-- what is known, and then the functions that are left, are all functions
abbrev pub invariant-loop-function : goal.invariant-loop-function
invariant-loop-function l = pure_behind l.known.items (map function_of (drop l.function-index l.functions)) ≡ pure_functions (map function_of l.functions)
