use Rattle.std.proofs.Common.{◌≡◌, map, drop}
use Rattle.std.specs.List.{list_all}
use Rattle.checked_tree.specs.Shape.{seen}
use Rattle.comet_meaning.specs.Built.{is_built_part}
use Rattle.program_forms.proofs.actions.are_built_arguments.Given as goal

-- what is left decides the whole
abbrev pub invariant-loop-argument : goal.invariant-loop-argument
invariant-loop-argument l = list_all is_built_part (map seen (drop l.argument-index l.arguments)) ≡ list_all is_built_part (map seen l.arguments)
