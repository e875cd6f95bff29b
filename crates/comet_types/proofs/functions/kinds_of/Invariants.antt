use Rattle.std.proofs.Common.{◌≡◌, ◌++◌, drop}
use Rattle.comet_types.specs.Functions.{kinds_of}
use Rattle.comet_types.proofs.functions.kinds_of.Given as goal

abbrev pub invariant-loop-parameter : goal.invariant-loop-parameter
invariant-loop-parameter l = l.kinds.items ++ kinds_of (drop l.parameter-index l.parameters) ≡ kinds_of l.parameters
