use Rattle.checked_tree.specs.Actions.{variable_of}
use Rattle.run_objects.specs.OfRunSolvers.Views.{beginning_seen}
use Rattle.run_steps.specs.Operands.{added_cell}
use Rattle.run_steps.proofs.Behind.{err_passes, ok_does}
use Rattle.run_steps.proofs.Goes.{goes_added_cell}
use Rattle.run_effects.proofs.declaring.push_variable.Goals as goal

pub returns-in-Err : goal.returns-in-Err
returns-in-Err g c = record { did = let printed = (g.O.Outside.told c.args.out.now) in err_passes beginning_seen c.args.beginning c.in-Err.stop _ (added_cell c.args.at (variable_of c.args.variable.now) c.args.decl c.args.indices.now c.args.cells.items) c.in-Err.is (λ b. goes_added_cell c.args.at (variable_of c.args.variable.now) c.args.decl c.args.indices.now c.args.cells.items b) }

pub returns-in-Ok : goal.returns-in-Ok
returns-in-Ok g c = record { did = let printed = (g.O.Outside.told c.args.out.now) in ok_does beginning_seen _ c.args.beginning c.in-Ok.beginning _ _ _ (added_cell c.args.at (variable_of c.args.variable.now) c.args.decl c.args.indices.now c.args.cells.items) c.in-Ok.is (c.add_cell.ensures.did) }
