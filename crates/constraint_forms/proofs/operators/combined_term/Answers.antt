use Rattle.std.proofs.Common.{sym, subst}
use Rattle.run_steps.specs.Does.{Does}
use Rattle.constraint_forms.proofs.MemberRows.{combined_none, combined_some}
use Rattle.constraint_forms.proofs.operators.combined_term.Goals as goal

pub returns-in-None : goal.returns-in-None
returns-in-None g c = record { did = combined_none _ _ _ _ (rw c.in-None.is at c.first.ensures.value) }

pub returns-in-Some : goal.returns-in-Some
returns-in-Some g c = record { did = subst (Does _ _ _) (sym (combined_some _ _ _ _ _ (rw c.in-Some.is at c.first.ensures.value))) c.members_term.ensures.did }
