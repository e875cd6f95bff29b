use Rattle.std.proofs.Common.{sym, ap}
use Rattle.comet_meaning.specs.Outcome.{Went}
use Rattle.term_nodes.proofs.nodes.cell_at.Goals as goal

pub returns-in-Some : goal.returns-in-Some
returns-in-Some c = record { did = λ s. rw c.in-Some.is (ap (λ t. Went t s) (sym c.term_in.ensures)) }
