use Rattle.std.proofs.Common.{rules, ◌<◌, ◌≤◌}
use Rattle.inc_store.specs.Views.{count_of, first_of}
use Rattle.solver_store.proofs.NodeValues.{node_valued}
use Rattle.solver_store.proofs.shares.ReaderHeld.violation.Goals as goal

pub place_violation-requires-clause-valued : goal.place_violation-requires-clause-valued
place_violation-requires-clause-valued g c =
    let s = c.args.self.now.store.now in
    let past : first_of s ≤ c.args.id = search rules in
    let within : c.args.id < count_of s = search rules in
    node_valued g.N.NodeRule.rule g.N.NodeRule.held g.N.NodeRule.ready s c.requires.0 c.args.id past within (g.N.NodeRule.rule c.node.result.now) c.node.ensures.rule (g.N.NodeRule.held c.node.result.now) c.node.ensures.held
