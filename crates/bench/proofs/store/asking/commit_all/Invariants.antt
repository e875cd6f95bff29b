use Rattle.std.proofs.Common.{◌≡◌}
use Rattle.inc_store.specs.Views.{IsUsable, graph_in}
use Rattle.bench.proofs.store.asking.commit_all.Given as goal

abbrev pub invariant-loop-moves : goal.invariant-loop-moves
invariant-loop-moves g l =
    let n = g.N.NodeRule in
    record {
      usable : IsUsable n.rule n.held n.ready l.store;
      graph : graph_in n.rule l.store ≡ graph_in n.rule l.fn.store;
    }
