use Rattle.std.proofs.Common.{◌≡◌}
use Rattle.node_table.proofs.walk.follow.Given as goal

abbrev pub invariant-loop-row : goal.invariant-loop-row
invariant-loop-row g l = record { ready : g.N.NodeRule.ready l.node; held : g.N.NodeRule.held l.node ≡ l.held.items }
