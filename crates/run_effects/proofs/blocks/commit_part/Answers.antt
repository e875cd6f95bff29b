use Rattle.comet_meaning.specs.Values.{solver_of}
use Rattle.run_values.specs.Views.{value_seen}
use Rattle.run_steps.specs.Operands.{closed_block}
use Rattle.run_steps.specs.Views.{flow_seen}
use Rattle.run_steps.proofs.Behind.{err_passes, ok_does}
use Rattle.run_steps.proofs.Goes.{goes_closed_block}
use Rattle.run_effects.proofs.blocks.commit_part.Goals as goal

pub returns-in-Err : goal.returns-in-Err
returns-in-Err g c = record { did = let printed = (g.O.Outside.told c.args.out.now) in err_passes flow_seen c.args.flow c.in-Err.stop _ (closed_block (solver_of (value_seen c.args.solver.now))) c.in-Err.is (λ flow. goes_closed_block _ flow) }

pub returns-in-Ok : goal.returns-in-Ok
returns-in-Ok g c = record { did = let printed = (g.O.Outside.told c.args.out.now) in ok_does flow_seen flow_seen c.args.flow c.in-Ok.flow _ _ _ (closed_block (solver_of (value_seen c.args.solver.now))) c.in-Ok.is (c.close_block.ensures.did) }
