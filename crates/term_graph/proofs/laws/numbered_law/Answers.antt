use Rattle.term_graph.proofs.PostedLaws.{joined_after, posted_after}
use Rattle.term_graph.proofs.laws.numbered_law.Goals as goal

pub returns-clause-terms : goal.returns-clause-terms
returns-clause-terms c = joined_after

pub returns-clause-posted : goal.returns-clause-posted
returns-clause-posted c = posted_after
