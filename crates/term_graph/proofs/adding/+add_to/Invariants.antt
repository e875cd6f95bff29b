use Rattle.std.proofs.Common.{List, All, ◌+◌, ◌<◌, length, take}
use Rattle.term_count.specs.Numbering.{listed, terms_after_all}
use Rattle.term_graph.specs.Adding.{IsGrown, StandAll}
use Rattle.term_graph.specs.Graphs.{IsGraphOf}
use Rattle.term_model.specs.Depth.{depth_of}
use Rattle.term_model.specs.declared.term.Term.{Term}
use Rattle.term_graph.proofs.adding.+add_to.Given as goal

abbrev pub invariant-loop-arg : goal.invariant-loop-arg
invariant-loop-arg l = record {
  grown : IsGrown l.initial.graph l.graph;
  below : All (λ id. id.0 < l.graph.cells + length l.graph.nodes.items) l.inputs.items;
  stand : (ts : List Term) → IsGraphOf l.initial.graph ts → StandAll l.initial.graph.cells (listed l.graph.codes.keys) l.graph.nodes.items (terms_after_all ts (take l.arg-index l.arg-items)) (take l.arg-index l.arg-items) l.inputs.items;
}

abbrev pub decreases-add_to : goal.decreases-add_to
decreases-add_to l = depth_of l.term.now
