use Rattle.std.proofs.Common.{◌≡◌}
use Rattle.inc_store.specs.Views.{IsUsable, graph_in}
use Rattle.bench.proofs.store.asking.time_commits.Given as goal

abbrev pub invariant-loop-round : goal.invariant-loop-round
invariant-loop-round g l =
    let n = g.N.NodeRule in
    record {
      usable : IsUsable n.rule n.held n.ready l.store;
      graph : graph_in n.rule l.store ≡ graph_in n.rule l.fn.store;
    }
