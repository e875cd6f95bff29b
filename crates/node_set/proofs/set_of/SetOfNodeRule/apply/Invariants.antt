use Rattle.std.proofs.Common.{◌≡◌, take, length}
use Rattle.cbl_base.specs.Changes.{after_changes}
use Rattle.cbl_base.specs.Inputs.{as_inputs}
use Rattle.cbl_operations.specs.SetForms.{keys_where}
use Rattle.cbl_operations.specs.Truth.{is_one}
use Rattle.node_set.specs.Bags.{IsBagOf}
use Rattle.node_set.proofs.set_of.SetOfNodeRule.apply.Given as goal

abbrev pub invariant-loop-change : goal.invariant-loop-change
invariant-loop-change l = record {
  held : as_inputs l.self.numbers.items ≡ after_changes (as_inputs l.fn.self.numbers.items) (take l.change-index l.changes);
  bag : IsBagOf l.self.ones (keys_where is_one l.self.keys l.self.numbers.items);
  length : length l.self.numbers.items ≡ length l.self.keys;
  keys : l.self.keys ≡ l.fn.self.keys;
}
