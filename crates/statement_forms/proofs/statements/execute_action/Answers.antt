use Rattle.std.proofs.Common.{sym}
use Rattle.run_steps.proofs.Steps.{action_goes_on, action_returns}
use Rattle.statement_forms.proofs.statements.execute_action.Goals as goal

pub returns-in-Some : goal.returns-in-Some
returns-in-Some g c = record { did = rw (action_returns _ _ _ _ (sym (rw c.in-Some.is at c.returned.ensures))) c.execute_return.ensures.did }

pub returns-in-None : goal.returns-in-None
returns-in-None g c = record { did = rw (action_goes_on _ _ _ (sym (rw c.in-None.is at c.returned.ensures))) (c.as_next.ensures.did _ _ c.perform.ensures.did) }
