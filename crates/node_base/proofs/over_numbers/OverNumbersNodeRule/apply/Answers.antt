use Rattle.std.proofs.Common.{◌∙◌, ap}
use Rattle.cbl_base.specs.Inputs.{as_inputs}
use Rattle.node_base.proofs.ChangeLemmas.{held_change, held_next, is_of_number, is_number_change}
use Rattle.node_base.proofs.over_numbers.OverNumbersNodeRule.apply.Goals as goal

pub number_change-requires : goal.number_change-requires
number_change-requires g c =
    is_of_number (g.N.NumberNode.held_numbers c.loop-change.self.node) c.change-item.result
    (held_change _ c.args.changes.now c.loop-change.change-index _ _ c.requires.changes c.loop-change-test.true c.change-item.is c.loop-change.invariant.numbers)

pub set-requires-clause-change : goal.set-requires-clause-change
set-requires-clause-change g c =
    is_number_change (g.N.NumberNode.held_numbers c.loop-change.self.node) c.change-item.result c.number_change.result
    (held_change _ c.args.changes.now c.loop-change.change-index _ _ c.requires.changes c.loop-change-test.true c.change-item.is c.loop-change.invariant.numbers) c.number_change.ensures

pub loop-change-preserved : goal.loop-change-preserved
loop-change-preserved g c =
    record {
      settled = c.in_ok-set.ensures.settled;
      numbers =
          ap as_inputs c.in_ok-set.ensures.numbers
          ∙ held_next _ c.args.changes.now c.loop-change.change-index _ _ _ c.requires.changes c.loop-change-test.true c.change-item.is c.loop-change.invariant.numbers c.number_change.ensures;
      rule = c.in_ok-set.ensures.rule ∙ c.loop-change.invariant.rule;
    }
