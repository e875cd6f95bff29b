use Rattle.std.proofs.Common.{◌≡◌, ℤ, List, take, length}
use Rattle.cbl_base.specs.Changes.{after_changes}
use Rattle.cbl_base.specs.Inputs.{as_inputs}
use Rattle.cbl_operations.specs.SetForms.{keys_where}
use Rattle.cbl_operations.specs.Truth.{is_one}
use Rattle.node_set.specs.Bags.{IsBagOf}
use Rattle.node_set.proofs.set_of.SetOfNodeRule.probe.Given as goal

abbrev pub invariant-loop-change : goal.invariant-loop-change
invariant-loop-change l =
    (xs : List ℤ) × (as_inputs xs ≡ after_changes (as_inputs l.self.numbers.items) (take l.change-index l.changes))
    × (length xs ≡ length l.self.keys) × IsBagOf l.ones (keys_where is_one l.self.keys xs)
