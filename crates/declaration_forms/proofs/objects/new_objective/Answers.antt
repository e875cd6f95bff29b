use Rattle.std.proofs.Common.{sym, subst}
use Rattle.run_steps.specs.Does.{Does}
use Rattle.declaration_forms.proofs.ObjectLaws.{made_of_one, made_of_others}
use Rattle.run_steps.specs.OfRunState.Views.{state_seen}
use Rattle.declaration_forms.proofs.objects.new_objective.Goals as goal

pub returns-then-arguments-ne1 : goal.returns-then-arguments-ne1
returns-then-arguments-ne1 g c = record { did = made_of_others _ _ _ _ c.if-arguments-ne1.true }

pub returns : goal.returns
returns g c = record { did = subst (Does _ _ _) (sym (made_of_one _ _ _ _ _ c.if-arguments-ne1.false c.index-arguments-0.is)) (c.objective_made.ensures.did (state_seen c.single_term-term.new.s (g.O.Outside.told c.single_term-term.new.out)) _ c.single_term-term.ensures.did) }
