-- What is no array is printed at once.
use Rattle.std.proofs.Common.{refl}
use Rattle.comet_meaning.specs.Printing.{value_text}
use Rattle.run_state.specs.Views.{state_seen}
use Rattle.run_state.proofs.state.State.print_value.Goals as goal

pub returns-in-Number-clause-did : goal.returns-in-Number-clause-did
unfolding value_text
returns-in-Number-clause-did g c = rw c.in-Number.is (c.print_number.ensures.did (state_seen c.args.self.now (g.O.Outside.told c.args.out.now)))

pub returns-in-Truth-clause-did : goal.returns-in-Truth-clause-did
unfolding value_text
returns-in-Truth-clause-did g c = rw c.in-Truth.is (rw c.in-Truth.is at (c.print_plain.ensures.did (state_seen c.args.self.now (g.O.Outside.told c.args.out.now))))

pub returns-in-Range-clause-did : goal.returns-in-Range-clause-did
unfolding value_text
returns-in-Range-clause-did g c = rw c.in-Range.is (rw c.in-Range.is at (c.print_plain-in-Range.ensures.did (state_seen c.args.self.now (g.O.Outside.told c.args.out.now))))

pub returns-in-Set-clause-did : goal.returns-in-Set-clause-did
unfolding value_text
returns-in-Set-clause-did g c = rw c.in-Set.is (rw c.in-Set.is at (c.print_plain-in-Set.ensures.did (state_seen c.args.self.now (g.O.Outside.told c.args.out.now))))

pub returns-in-Nothing-clause-did : goal.returns-in-Nothing-clause-did
unfolding value_text
returns-in-Nothing-clause-did g c = rw c.in-Nothing.is (rw c.in-Nothing.is at (c.print_plain-in-Nothing.ensures.did (state_seen c.args.self.now (g.O.Outside.told c.args.out.now))))

pub returns-in-Variable-clause-did : goal.returns-in-Variable-clause-did
unfolding value_text
returns-in-Variable-clause-did g c = rw c.in-Variable.is (rw c.in-Variable.is at (c.print_plain-in-Variable.ensures.did (state_seen c.args.self.now (g.O.Outside.told c.args.out.now))))

pub returns-in-Solver-clause-did : goal.returns-in-Solver-clause-did
unfolding value_text
returns-in-Solver-clause-did g c = rw c.in-Solver.is (rw c.in-Solver.is at (c.print_plain-in-Solver.ensures.did (state_seen c.args.self.now (g.O.Outside.told c.args.out.now))))

pub returns-in-System-clause-did : goal.returns-in-System-clause-did
unfolding value_text
returns-in-System-clause-did g c = rw c.in-System.is (rw c.in-System.is at (c.print_plain-in-System.ensures.did (state_seen c.args.self.now (g.O.Outside.told c.args.out.now))))

pub returns-in-Objective-clause-did : goal.returns-in-Objective-clause-did
unfolding value_text
returns-in-Objective-clause-did g c = rw c.in-Objective.is (rw c.in-Objective.is at (c.print_plain-in-Objective.ensures.did (state_seen c.args.self.now (g.O.Outside.told c.args.out.now))))

pub returns-in-Input-clause-did : goal.returns-in-Input-clause-did
unfolding value_text
returns-in-Input-clause-did g c = rw c.in-Input.is (rw c.in-Input.is at (c.print_plain-in-Input.ensures.did (state_seen c.args.self.now (g.O.Outside.told c.args.out.now))))

pub returns-in-Distribution-clause-did : goal.returns-in-Distribution-clause-did
unfolding value_text
returns-in-Distribution-clause-did g c = rw c.in-Distribution.is (rw c.in-Distribution.is at (c.print_plain-in-Distribution.ensures.did (state_seen c.args.self.now (g.O.Outside.told c.args.out.now))))

pub returns-in-Selector-clause-did : goal.returns-in-Selector-clause-did
unfolding value_text
returns-in-Selector-clause-did g c = rw c.in-Selector.is (rw c.in-Selector.is at (c.print_plain-in-Selector.ensures.did (state_seen c.args.self.now (g.O.Outside.told c.args.out.now))))

pub returns-in-Move-clause-did : goal.returns-in-Move-clause-did
unfolding value_text
returns-in-Move-clause-did g c = rw c.in-Move.is (rw c.in-Move.is at (c.print_plain-in-Move.ensures.did (state_seen c.args.self.now (g.O.Outside.told c.args.out.now))))

pub returns-in-Solution-clause-did : goal.returns-in-Solution-clause-did
unfolding value_text
returns-in-Solution-clause-did g c = rw c.in-Solution.is (rw c.in-Solution.is at (c.print_plain-in-Solution.ensures.did (state_seen c.args.self.now (g.O.Outside.told c.args.out.now))))
