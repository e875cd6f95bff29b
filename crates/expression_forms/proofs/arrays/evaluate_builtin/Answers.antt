use Rattle.std.proofs.Common.{sym, subst}
use Rattle.run_steps.specs.Does.{Does}
use Rattle.run_steps.proofs.Forms.{builtin_plain}
use Rattle.expression_forms.proofs.arrays.evaluate_builtin.Goals as goal

pub returns-in_default : goal.returns-in_default
returns-in_default g c = record { did = subst (Does _ _ _) (sym (builtin_plain _ _ _ _ _ c.in_default.not-Count)) c.evaluate_plain.ensures.did }
