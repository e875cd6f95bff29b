use Rattle.std.proofs.Common.{◌≡◌}
use Rattle.bench.proofs.nodes.timing.apply_all.Given as goal

abbrev pub invariant-loop-trip : goal.invariant-loop-trip
invariant-loop-trip g l =
    let n = g.N.NodeRule in
    record {
      ready : n.ready l.node;
      held : n.held l.node ≡ n.held l.fn.node;
    }
