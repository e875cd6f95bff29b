use Rattle.run_steps.proofs.Visiting.{visiting_none}
use Rattle.statement_forms.proofs.for_all.execute_for_all.Goals as goal

pub returns-in-None : goal.returns-in-None
returns-in-None g c = record { did = visiting_none _ _ _ _ _ _ (rw c.in-None.is at c.first.ensures.value) }

pub returns-in-Some : goal.returns-in-Some
returns-in-Some g c = record { did = c.visit_all.ensures.did }
