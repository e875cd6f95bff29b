use Rattle.std.proofs.Common.{◌≡◌, length, get_or, rules, arith}
use Rattle.node_base.proofs.ChangeLemmas.{no_change, number_within, number_first}
use Rattle.diff_comb.proofs.of_one.OfOneNumberNode.probe.Goals as goal

pub offset_bounds-members-change : goal.offset_bounds-members-change
offset_bounds-members-change c =
    let within = number_within c.args.self.now.members (get_or c.args.changes.now c.loop-change.change-index no_change) (number_first c.args.self.now.members c.args.changes.now c.loop-change.change-index no_change c.requires.changes c.loop-change-test.true) in
    let long : length c.args.self.now.members ≡ 1 = search rules in
    record { fits = omega (arith, within, long) }

pub bounds-members-change : goal.bounds-members-change
bounds-members-change c =
    let within = number_within c.args.self.now.members (get_or c.args.changes.now c.loop-change.change-index no_change) (number_first c.args.self.now.members c.args.changes.now c.loop-change.change-index no_change c.requires.changes c.loop-change-test.true) in
    let long : length c.args.self.now.members ≡ 1 = search rules in
    omega (arith, within, long)
