use Rattle.std.proofs.Common.{ap, ◌∙◌}
use Rattle.term_graph.specs.Ids.{ids_of}
use Rattle.term_graph.proofs.graph.Graph.inputs.Goals as goal

pub returns-clause-inputs : goal.returns-clause-inputs
returns-clause-inputs c = λ ts t graph at. ap ids_of c.as_slice.ensures.value ∙ (graph.each _ t c.node.result.now at c.node.ensures).inputs
