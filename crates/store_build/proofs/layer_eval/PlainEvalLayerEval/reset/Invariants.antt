use Rattle.std.proofs.Common.{◌≡◌, map, All}
use Rattle.store_build.proofs.layer_eval.PlainEvalLayerEval.reset.Given as goal

abbrev pub invariant-loop-node : goal.invariant-loop-node
invariant-loop-node g l = record {
  ready : All g.N.NodeRule.ready l.nodes.items;
  rules : map g.N.NodeRule.rule l.nodes.items ≡ map (λ j. g.N.NodeRule.rule j.0) l.yielded;
  held : map g.N.NodeRule.held l.nodes.items ≡ map (λ j. j.1.items) l.yielded;
}
