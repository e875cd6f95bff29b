use Rattle.std.proofs.Common.{◌∙◌, sym, subst, refl}
use Rattle.comet_meaning.specs.Expressions.{value_of_expression}
use Rattle.comet_meaning.specs.Writes.{target_of_expression}
use Rattle.run_steps.proofs.Stops.{stopped_then}
use Rattle.run_steps.proofs.Steps.{stmt_as, stmt_at_zero}
use Rattle.std.proofs.lemmas.Result.{err_from_is_err_and}
use Rattle.comet_meaning.proofs.GoingOn.{goes_charge}
use Rattle.comet_meaning.proofs.GoingStatements.{goes_level, goes_meaning_of_form}
use Rattle.run_steps.specs.Does.{Does}
use Rattle.run_steps.proofs.Levels.{expr_at_zero, expr_as, term_at_zero, term_constrains, term_moves, term_stays, target_at_zero, target_as}
use Rattle.interpreter.proofs.levels.+run.Goals as goal

pub evaluate-returns-then-room-eq0 : goal.evaluate-returns-then-room-eq0
evaluate-returns-then-room-eq0 g t c = record { did = expr_at_zero _ _ _ _ c.if-room-eq0.true }

pub evaluate-returns : goal.evaluate-returns
unfolding value_of_expression
evaluate-returns g t c = record { did = subst (Does _ _ _) (sym (expr_as _ _ _ _ c.if-room-eq0.false)) c.evaluate_form.ensures.did }

pub locate-returns-then-room-eq0 : goal.locate-returns-then-room-eq0
locate-returns-then-room-eq0 g t c = record { did = target_at_zero _ _ _ _ c.if-room-eq0.true }

pub locate-returns : goal.locate-returns
unfolding target_of_expression
locate-returns g t c = record { did = subst (Does _ _ _) (sym (target_as _ _ _ _ c.if-room-eq0.false)) c.target_of_form.ensures.did }

pub define-returns-then-room-eq0 : goal.define-returns-then-room-eq0
define-returns-then-room-eq0 g t c = record { did = term_at_zero _ _ _ _ c.if-room-eq0.true }

pub define-returns-then-is_constraint : goal.define-returns-then-is_constraint
define-returns-then-is_constraint g t c = record { did = subst (Does _ _ _) (sym (term_constrains _ _ _ _ c.if-room-eq0.false c.if-e.true (sym c.is_constraint.ensures ∙ c.if-is_constraint.true))) c.constraint_form.ensures.did }

pub define-returns-else-is_constraint : goal.define-returns-else-is_constraint
define-returns-else-is_constraint g t c = record { did = subst (Does _ _ _) (sym (term_moves _ _ _ _ c.if-room-eq0.false c.if-e.true (sym c.is_constraint.ensures ∙ c.if-is_constraint.false))) c.moving_term.ensures.did }

pub define-returns-else-e : goal.define-returns-else-e
define-returns-else-e g t c = record { did = subst (Does _ _ _) (sym (term_stays _ _ _ _ c.if-room-eq0.false c.if-e.false)) c.constant_term.ensures.did }

pub execute-returns-then-room-eq0 : goal.execute-returns-then-room-eq0
execute-returns-then-room-eq0 g t c = record { did = stmt_at_zero _ _ _ _ c.if-room-eq0.true }

pub execute-returns-in_err-charge : goal.execute-returns-in_err-charge
execute-returns-in_err-charge g t c = let p = err_from_is_err_and c.from_residual.result c.from_residual.ensures.1 in record { did = rw (p.1, p.2, stmt_as _ _ _ _ c.if-room-eq0.false) (stopped_then _ _ _ _ (goes_charge _ _) refl (λ _. goes_meaning_of_form _ (goes_level _ _) _ _) (c.in_err-charge.ensures.did _)) }

pub execute-returns : goal.execute-returns
execute-returns g t c = record { did = rw (stmt_as _ _ _ _ c.if-room-eq0.false, c.in_ok-charge.ensures.did (g.O.Outside.told c.args.out.now)) c.execute_act.ensures.did }
