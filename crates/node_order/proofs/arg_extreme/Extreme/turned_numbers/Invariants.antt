use Rattle.std.proofs.Common.{◌≡◌, map, take}
use Rattle.cbl_base.specs.Inputs.{numbers_of}
use Rattle.node_order.specs.Extremes.{turned}
use Rattle.node_order.proofs.arg_extreme.Extreme.turned_numbers.Given as goal

abbrev pub invariant-loop-input : goal.invariant-loop-input
invariant-loop-input l = l.made.items ≡ map (turned l.self) (numbers_of (take l.input-index l.inputs))
