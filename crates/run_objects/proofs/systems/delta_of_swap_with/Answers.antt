-- Of what is no variable nothing is given.
use Rattle.run_objects.proofs.SystemLaws.{swapped_with_nothing}
use Rattle.run_state.specs.OfRunOutside.Told.{beside}
use Rattle.run_objects.proofs.systems.delta_of_swap_with.Goals as goal

pub returns-in-Variable-clause-did : goal.returns-in-Variable-clause-did
returns-in-Variable-clause-did g c = λ s. rw c.in-Variable.is (c.delta_of_swap.ensures.did s)

pub returns-in_default-clause-did : goal.returns-in_default-clause-did
returns-in_default-clause-did g c = λ s. swapped_with_nothing c.args.at _ _ _ (beside (g.O.Outside.told c.args.out.now) s) c.in_default.not-Variable
