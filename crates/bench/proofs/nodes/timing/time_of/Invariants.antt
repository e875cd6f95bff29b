use Rattle.std.proofs.Common.{◌≡◌}
use Rattle.bench.proofs.nodes.timing.time_of.Given as goal

abbrev pub invariant-loop-doubling : goal.invariant-loop-doubling
invariant-loop-doubling g l =
    let n = g.N.NodeRule in
    record {
      ready : n.ready l.node;
      held : n.held l.node ≡ n.held l.fn.node;
    }

abbrev pub invariant-loop-round : goal.invariant-loop-round
invariant-loop-round g l =
    let n = g.N.NodeRule in
    record {
      ready : n.ready l.node;
      held : n.held l.node ≡ n.held l.fn.node;
    }
