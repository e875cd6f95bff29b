use Rattle.std.proofs.Common.{◌≡◌, take}
use Rattle.cbl_base.specs.Inputs.{as_inputs}
use Rattle.cbl_base.specs.Changes.{after_changes}
use Rattle.node_base.proofs.over_numbers.OverNumbersNodeRule.apply.Given as goal

abbrev pub invariant-loop-change : goal.invariant-loop-change
invariant-loop-change g l =
    let n = g.N.NumberNode in
    record {
      settled : n.settled l.self.node;
      numbers : as_inputs (n.held_numbers l.self.node) ≡ after_changes (as_inputs (n.held_numbers l.fn.self.node)) (take l.change-index l.changes);
      rule : n.number_rule l.self.node ≡ n.number_rule l.fn.self.node;
    }
