use Rattle.checked_tree.specs.Actions.{variable_of}
use Rattle.comet_meaning.proofs.GoingOn.{goes_give}
use Rattle.comet_meaning.proofs.GoingVariables.{goes_variable_in}
use Rattle.run_objects.specs.OfRunSolvers.Views.{beginning_seen}
use Rattle.run_objects.specs.OfRunState.Views.{state_seen}
use Rattle.run_steps.proofs.AggregateLaws.{memory_ends}
use Rattle.run_steps.proofs.Exits.{act_exit, after, exit, gives}
use Rattle.run_steps.proofs.Goes.{goes_added_cell}
use Rattle.run_steps.proofs.Stops.{stays}
use Rattle.run_effects.proofs.declaring.add_cell.Goals as goal

pub returns-in_err-name : goal.returns-in_err-name
returns-in_err-name g c = record { did = let printed = (g.O.Outside.told c.args.out.now) in exit _ _ _ _ _ c.from_residual.ensures.1 (memory_ends _ _ _ c.in_err-name.ensures.memory ((goes_added_cell c.args.at (variable_of c.args.variable.now) c.args.decl c.args.indices.now c.args.cells.items (beginning_seen c.args.beginning)).from (state_seen c.args.s.now printed)).printed) }

pub returns-in_err-made : goal.returns-in_err-made
returns-in_err-made g c = record { did = let printed = (g.O.Outside.told c.args.out.now) in act_exit _ _ _ _ _ _ c.from_residual-in_err-made.ensures.1 (rw c.in_ok-name.ensures.name at (c.in_err-made.ensures.did)) (stays (state_seen c.args.s.now (g.O.Outside.told c.args.out.now)) (state_seen c.variable_in.new.s (g.O.Outside.told c.variable_in.new.out)) (goes_variable_in _ _ _ _ _) c.variable_in.ensures.printed) (λ x. goes_give) }

pub returns : goal.returns
returns g c = record { did = let printed = (g.O.Outside.told c.args.out.now) in after _ _ _ _ (rw c.in_ok-name.ensures.name at (c.in_ok-made.ensures.did)) (gives _ _ _ _ c.pushed.ensures.more c.pushed.ensures.memory) }
