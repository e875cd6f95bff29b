use Rattle.std.proofs.Common.{sym, subst}
use Rattle.run_steps.specs.Does.{Does}
use Rattle.declaration_forms.proofs.ObjectLaws.{made_in_one, made_in_others}
use Rattle.declaration_forms.proofs.objects.new_solution.Goals as goal

pub returns-then-arguments-ne1 : goal.returns-then-arguments-ne1
returns-then-arguments-ne1 g c = record { did = made_in_others _ _ _ _ c.if-arguments-ne1.true }

pub returns : goal.returns
returns g c = record { did = subst (Does _ _ _) (sym (made_in_one _ _ _ _ _ c.if-arguments-ne1.false c.index-arguments-0.is)) (c.solution_made.ensures.did _ c.value_of-solver.ensures.did) }
