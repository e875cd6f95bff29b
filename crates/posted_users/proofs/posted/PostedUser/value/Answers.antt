-- What is probed are the changes to the list.
use Rattle.std.proofs.Common.{◌≡◌, true, rules}
use Rattle.posted_users.proofs.KeptLaws.{value_told}
use Rattle.posted_users.proofs.posted.PostedUser.value.Goals as goal

pub returns : goal.returns
returns g c =
    let s = c.self.inside in
    let ready : s.ready ≡ true = search rules in
    value_told c.number_told.result (g.N.NodeRule.rule s.node) (g.N.NodeRule.held s.node) s.numbers.items c.deref.result.now c.in_ok-changes.changes.items c.deref-2.result.now c.args.list.now c.probe.result c.args.self.now
    c.number_told.ensures c.self.invariant.0 (c.self.invariant.1 ready).1 c.deref.ensures.value c.deref-2.ensures.value c.in_ok-changes.ensures.after c.probe.ensures c.self.view_is
