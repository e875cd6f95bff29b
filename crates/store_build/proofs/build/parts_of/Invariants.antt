use Rattle.std.proofs.Common.{suc, map}
use Rattle.store_turns.specs.Meaning.{graph_of, layer_of, outcome_at}
use Rattle.store_build.specs.Aims.{start_of}
use Rattle.store_build.proofs.build.parts_of.Given as goal

abbrev pub ghost-build_over : goal.ghost-build_over
ghost-build_over g a = record {
  rules = map g.N.NodeRule.rule a.nodes.items;
  outcome = λ id. outcome_at (graph_of (map g.N.NodeRule.rule a.nodes.items) a.frame) (start_of a.start.now) (suc (layer_of a.frame id)) id;
}
