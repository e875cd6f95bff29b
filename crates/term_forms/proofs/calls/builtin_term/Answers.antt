use Rattle.std.proofs.Common.{sym, subst}
use Rattle.run_steps.specs.Does.{Does}
use Rattle.term_forms.proofs.CallLaws.{builtin_plain}
use Rattle.term_forms.proofs.calls.builtin_term.Goals as goal

pub returns-in-Count : goal.returns-in-Count
returns-in-Count g c = record { did = rw c.in-Count.is c.count_call.ensures.did }

pub returns-in_default : goal.returns-in_default
returns-in_default g c = record { did = subst (Does _ _ _) (sym (builtin_plain _ _ _ _ _ c.in_default.not-Count)) c.plain_term.ensures.did }
