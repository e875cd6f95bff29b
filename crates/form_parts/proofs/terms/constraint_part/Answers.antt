use Rattle.std.proofs.Common.{sym, subst}
use Rattle.run_steps.specs.Does.{Does}
use Rattle.form_parts.proofs.PartLaws.{constraint_moves, constraint_stays}
use Rattle.form_parts.proofs.terms.constraint_part.Goals as goal

pub returns-then-e : goal.returns-then-e
returns-then-e g c = record { did = subst (Does _ _ _) (sym (constraint_moves _ _ _ c.if-e.true)) c.single_term.ensures.did }

pub returns-else-e : goal.returns-else-e
returns-else-e g c = record { did = subst (Does _ _ _) (sym (constraint_stays _ _ _ c.if-e.false)) (c.as_broken.ensures.did _ _ c.truth_of.ensures.did) }
