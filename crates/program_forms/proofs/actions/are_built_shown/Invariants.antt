use Rattle.std.proofs.Common.{◌≡◌, map, drop}
use Rattle.std.specs.List.{list_all}
use Rattle.checked_tree.specs.Actions.{printed_of}
use Rattle.comet_meaning.specs.Built.{is_built_shown}
use Rattle.program_forms.proofs.actions.are_built_shown.Given as goal

-- what is left decides the whole
abbrev pub invariant-loop-part : goal.invariant-loop-part
invariant-loop-part l = list_all is_built_shown (map printed_of (drop l.part-index l.printed)) ≡ list_all is_built_shown (map printed_of l.printed)
