use Rattle.graph_values.proofs.TakenInputs.{are_taken}
use Rattle.graph_values.proofs.TakenLinks.{all_take}
use Rattle.graph_values.proofs.laws.taken_law.Goals as goal

pub returns-clause-nodes : goal.returns-clause-nodes
returns-clause-nodes c = λ viol_of viol_at M a given sets g total holds o meaning. are_taken viol_of viol_at M a given.formed given.acyclic given.long sets g total holds o meaning

pub returns-clause-rules : goal.returns-clause-rules
returns-clause-rules c = λ viol_of viol_at M a given sets rules inputs total links takers o meaning.
    all_take viol_of viol_at M a given.formed given.acyclic given.long sets rules inputs total links takers o meaning
