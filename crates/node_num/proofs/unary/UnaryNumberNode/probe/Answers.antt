use Rattle.std.proofs.Common.{◌≡◌, length, get_or, rules, arith}
use Rattle.node_base.proofs.ChangeLemmas.{no_change, number_within, number_first}
use Rattle.node_num.proofs.unary.UnaryNumberNode.probe.Goals as goal

pub offset_bounds-operands-change : goal.offset_bounds-operands-change
offset_bounds-operands-change c =
    let within = number_within c.args.self.now.operands (get_or c.args.changes.now c.loop-change.change-index no_change) (number_first c.args.self.now.operands c.args.changes.now c.loop-change.change-index no_change c.requires.changes c.loop-change-test.true) in
    let long : length c.args.self.now.operands ≡ 1 = search rules in
    record { fits = omega (arith, within, long) }

pub bounds-operands-change : goal.bounds-operands-change
bounds-operands-change c =
    let within = number_within c.args.self.now.operands (get_or c.args.changes.now c.loop-change.change-index no_change) (number_first c.args.self.now.operands c.args.changes.now c.loop-change.change-index no_change c.requires.changes c.loop-change-test.true) in
    let long : length c.args.self.now.operands ≡ 1 = search rules in
    omega (arith, within, long)
