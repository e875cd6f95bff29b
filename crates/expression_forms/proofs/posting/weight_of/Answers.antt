use Rattle.std.proofs.Common.{sym, subst}
use Rattle.run_steps.specs.Does.{Does}
use Rattle.expression_forms.proofs.PostLaws.{no_weight, weight_there}
use Rattle.expression_forms.proofs.posting.weight_of.Goals as goal

pub returns-then-weights-eq0 : goal.returns-then-weights-eq0
returns-then-weights-eq0 g c = record { did = no_weight _ _ _ c.if-weights-eq0.true }

pub returns : goal.returns
returns g c = record { did = subst (Does _ _ _) (sym (weight_there _ _ _ _ c.if-weights-eq0.false c.index-weights-0.is)) c.number_of.ensures.did }
