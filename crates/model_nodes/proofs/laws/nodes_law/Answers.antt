use Rattle.model_nodes.proofs.WholeLinks.{nodes_linked, nodes_take, nodes_whole}
use Rattle.model_nodes.proofs.laws.nodes_law.Goals as goal

pub returns-clause-graph : goal.returns-clause-graph
returns-clause-graph c = λ users M rules lists are. nodes_whole users M rules lists are

pub returns-clause-links : goal.returns-clause-links
returns-clause-links c = λ users M rules lists are. nodes_linked users M rules lists are

pub returns-clause-takers : goal.returns-clause-takers
returns-clause-takers c = λ users M rules lists are. nodes_take users M rules lists are
