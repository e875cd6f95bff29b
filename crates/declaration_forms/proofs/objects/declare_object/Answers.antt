use Rattle.comet_meaning.specs.Declarations.{object_form}
use Rattle.declaration_forms.proofs.ObjectLaws.{object_of_others}
use Rattle.run_steps.specs.OfRunState.Views.{state_seen}
use Rattle.declaration_forms.proofs.objects.declare_object.Goals as goal

pub returns-in-Solver : goal.returns-in-Solver
unfolding object_form
returns-in-Solver g c = record { did = rw c.in-Solver.is (c.put_made.ensures.did _ _ (c.solver_made-made.ensures.did (state_seen c.args.s.now (g.O.Outside.told c.args.out.now)))) }

pub returns-in-Input : goal.returns-in-Input
unfolding object_form
returns-in-Input g c = record { did = rw c.in-Input.is (c.put_made-in-Input.ensures.did _ _ (c.input_made-made.ensures.did _)) }

pub returns-in-System : goal.returns-in-System
unfolding object_form
returns-in-System g c = record { did = rw c.in-System.is (c.put_made-in-System.ensures.did _ _ c.new_system-made.ensures.did) }

pub returns-in-Total : goal.returns-in-Total
unfolding object_form
returns-in-Total g c = record { did = rw c.in-Total.is (c.put_made-in-Total.ensures.did _ _ c.new_sum-made.ensures.did) }

pub returns-in-Objective : goal.returns-in-Objective
unfolding object_form
returns-in-Objective g c = record { did = rw c.in-Objective.is (c.put_made-in-Objective.ensures.did _ _ c.new_objective-made.ensures.did) }

pub returns-in-Distribution : goal.returns-in-Distribution
unfolding object_form
returns-in-Distribution g c = record { did = rw c.in-Distribution.is (c.put_made-in-Distribution.ensures.did _ _ c.new_distribution-made.ensures.did) }

pub returns-in-Selector : goal.returns-in-Selector
unfolding object_form
returns-in-Selector g c = record { did = rw c.in-Selector.is (c.put_made-in-Selector.ensures.did _ _ (c.selector_made-made.ensures.did _)) }

pub returns-in-Solution : goal.returns-in-Solution
unfolding object_form
returns-in-Solution g c = record { did = rw c.in-Solution.is (c.put_made-in-Solution.ensures.did _ _ c.new_solution-made.ensures.did) }

pub returns-in_default : goal.returns-in_default
returns-in_default g c = record { did = object_of_others _ _ _ _ _ _ c.in_default.not-Solver c.in_default.not-Input c.in_default.not-System c.in_default.not-Total c.in_default.not-Objective c.in_default.not-Distribution c.in_default.not-Selector c.in_default.not-Solution }
