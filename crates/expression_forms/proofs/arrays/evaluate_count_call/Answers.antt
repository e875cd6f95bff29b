use Rattle.std.proofs.Common.{sym, subst}
use Rattle.run_steps.specs.Does.{Does}
use Rattle.run_steps.proofs.Forms.{count_of_two, count_of_others}
use Rattle.expression_forms.proofs.arrays.evaluate_count_call.Goals as goal

pub returns-then-arguments-ne2 : goal.returns-then-arguments-ne2
returns-then-arguments-ne2 g c = record { did = subst (Does _ _ _) (sym (count_of_others _ _ _ _ c.if-arguments-ne2.true)) c.evaluate_plain.ensures.did }

pub returns : goal.returns
returns g c = record { did = subst (Does _ _ _) (sym (count_of_two _ _ _ _ _ _ c.if-arguments-ne2.false c.index-arguments-0.is c.index-arguments-1.is)) c.evaluate_count.ensures.did }
