use Rattle.std.proofs.Common.{◌∙◌, sym, subst}
use Rattle.comet_meaning.specs.Blocks.{together_form}
use Rattle.comet_meaning.specs.Values.{solver_of}
use Rattle.comet_meaning.proofs.Endings.{went_then}
use Rattle.comet_meaning.proofs.GoingOn.{goes_look}
use Rattle.comet_meaning.proofs.GoingStatements.{goes_level}
use Rattle.run_values.specs.Views.{value_seen}
use Rattle.run_steps.specs.OfRunState.Views.{state_seen}
use Rattle.run_steps.proofs.OfRunObjects.WithLaws.{together_law}
use Rattle.run_steps.specs.Does.{Does}
use Rattle.run_steps.proofs.Exits.{act_exit, after}
use Rattle.run_steps.proofs.Goes.{goes_block, goes_opened, goes_together_in}
use Rattle.run_steps.proofs.Stops.{stays}
use Rattle.write_forms.proofs.together.execute_together.Goals as goal

pub returns-in_err-solver : goal.returns-in_err-solver
unfolding together_form
returns-in_err-solver g c = record { did = act_exit _ _ _ _ _ _ c.from_residual.ensures.1 (c.in_err-solver.ensures.did _) ((goes_look _).from _).printed (λ v. goes_together_in _ (goes_level _ _) _ _ _) }

pub returns-in_err-outermost : goal.returns-in_err-outermost
unfolding together_form
returns-in_err-outermost g c = record { did = after _ _ _ _ (c.in_ok-solver.ensures.did _) (subst (Does _ _ _) (sym (together_law _ _ _ _ _)) (act_exit _ _ _ _ _ _ c.from_residual-in_err-outermost.ensures.1 (c.in_err-outermost.ensures.did (state_seen c.args.s.now (g.O.Outside.told c.args.out.now))) (stays (state_seen c.args.s.now (g.O.Outside.told c.args.out.now)) (state_seen c.args.s.now (g.O.Outside.told c.open_with.new.out)) (goes_opened c.args.at (solver_of (value_seen c.in_ok-solver.solver))) c.open_with.ensures.printed) (λ b. goes_block _ (goes_level _ _) _ _ _ b))) }

pub returns : goal.returns
unfolding together_form
returns g c = record { did = after _ _ _ _ (c.in_ok-solver.ensures.did _) (subst (Does _ _ _) (sym (together_law _ _ _ _ _)) (after _ _ _ _ (c.in_ok-outermost.ensures.did (state_seen c.args.s.now (g.O.Outside.told c.args.out.now))) c.execute_inside.ensures.did)) }
