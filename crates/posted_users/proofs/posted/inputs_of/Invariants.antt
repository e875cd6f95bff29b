use Rattle.std.proofs.Common.{◌≡◌, take}
use Rattle.cbl_base.specs.Inputs.{as_inputs}
use Rattle.posted_users.proofs.posted.inputs_of.Given as goal

abbrev pub invariant-loop-number : goal.invariant-loop-number
invariant-loop-number l = l.inputs.items ≡ as_inputs (take l.number-index l.numbers)
