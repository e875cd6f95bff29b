use Rattle.term_graph.proofs.graph.Graph.place.Goals as goal

pub returns : goal.returns
returns c = λ ts t graph at. (graph.each _ t c.node.result.now at c.node.ensures).place
