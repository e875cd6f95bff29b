use Rattle.std.proofs.Common.{◌≡◌, take}
use Rattle.cbl_base.specs.Inputs.{numbers_of}
use Rattle.node_base.proofs.over_numbers.numbers_of_inputs.Given as goal

abbrev pub invariant-loop-input : goal.invariant-loop-input
invariant-loop-input l = l.numbers.items ≡ numbers_of (take l.input-index l.inputs)
