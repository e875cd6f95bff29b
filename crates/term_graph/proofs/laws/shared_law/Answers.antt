use Rattle.term_graph.proofs.SharedLaws.{id_stays, ids_alike, ids_apart, known_after}
use Rattle.term_graph.proofs.laws.shared_law.Goals as goal

pub returns-clause-one : goal.returns-clause-one
returns-clause-one c = ids_alike

pub returns-clause-apart : goal.returns-clause-apart
returns-clause-apart c = ids_apart

pub returns-clause-known : goal.returns-clause-known
returns-clause-known c = known_after

pub returns-clause-stays : goal.returns-clause-stays
returns-clause-stays c = id_stays
