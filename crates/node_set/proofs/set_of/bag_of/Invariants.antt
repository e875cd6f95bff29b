use Rattle.std.proofs.Common.{take}
use Rattle.cbl_operations.specs.SetForms.{keys_where}
use Rattle.cbl_operations.specs.Truth.{is_one}
use Rattle.node_set.specs.Bags.{IsBagOf}
use Rattle.node_set.proofs.set_of.bag_of.Given as goal

abbrev pub invariant-loop-i : goal.invariant-loop-i
invariant-loop-i l = IsBagOf l.bag (keys_where is_one (take l.i l.keys) (take l.i l.numbers))
