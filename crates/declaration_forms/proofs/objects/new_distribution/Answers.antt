use Rattle.std.proofs.Common.{sym, subst}
use Rattle.run_steps.specs.Does.{Does}
use Rattle.declaration_forms.proofs.ObjectLaws.{made_of_no_range, made_of_one_range}
use Rattle.declaration_forms.proofs.objects.new_distribution.Goals as goal

pub returns-then-arguments-ne1 : goal.returns-then-arguments-ne1
returns-then-arguments-ne1 g c = record { did = made_of_no_range _ _ _ c.if-arguments-ne1.true }

pub returns : goal.returns
returns g c = record { did = subst (Does _ _ _) (sym (made_of_one_range _ _ _ _ c.if-arguments-ne1.false c.index-arguments-0.is)) (c.distribution_made.ensures.did _ _ c.value_of-range.ensures.did) }
