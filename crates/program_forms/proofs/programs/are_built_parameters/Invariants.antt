use Rattle.std.proofs.Common.{◌≡◌, drop}
use Rattle.std.specs.List.{list_all}
use Rattle.comet_meaning.specs.Built.{is_built_parameter}
use Rattle.program_forms.proofs.programs.are_built_parameters.Given as goal

-- what is left decides the whole
abbrev pub invariant-loop-kind : goal.invariant-loop-kind
invariant-loop-kind l = list_all is_built_parameter (drop l.kind-index l.kinds) ≡ list_all is_built_parameter l.kinds
