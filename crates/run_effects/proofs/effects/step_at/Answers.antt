use Rattle.std.proofs.Common.{rules, w64, FitsSigned}
use Rattle.std.proofs.lemmas.Int.{to_z-of_z}
use Rattle.comet_meaning.specs.Values.{number_of}
use Rattle.comet_meaning.specs.Writes.{stepped}
use Rattle.comet_meaning.proofs.GoingStatements.{goes_changed, goes_old_value}
use Rattle.run_objects.specs.OfRunState.Targets.{target_seen}
use Rattle.run_values.specs.Views.{value_seen}
use Rattle.run_steps.proofs.Exits.{act_does, act_exit, after}
use Rattle.run_steps.proofs.Stops.{stays}
use Rattle.run_objects.specs.OfRunState.Views.{state_seen}
use Rattle.run_effects.proofs.effects.step_at.Goals as goal

pub returns-in_err-old : goal.returns-in_err-old
returns-in_err-old g c = record { did = let printed = (g.O.Outside.told c.args.out.now) in act_exit _ _ _ _ _ _ c.from_residual.ensures.1 (c.in_err-old.ensures.did printed) ((goes_old_value _).from _).printed (λ old. goes_changed c.args.at (target_seen c.args.target.now) (stepped c.args.step (number_of old))) }

pub returns : goal.returns
returns g c = record { did = let printed = (g.O.Outside.told c.args.out.now) in let f : FitsSigned w64 c.number.result = search rules in after _ _ _ _ (c.in_ok-old.ensures.did printed) (act_does _ _ _ _ (rw c.number.ensures at (simp (to_z-of_z w64 c.number.result f) at (c.stepped.ensures.did))) (stays (state_seen c.args.s.now (g.O.Outside.told c.args.out.now)) (state_seen c.stepped.new.s (g.O.Outside.told c.stepped.new.out)) (goes_changed c.args.at (target_seen c.args.target.now) (stepped c.args.step (number_of (value_seen c.in_ok-old.old)))) c.stepped.ensures.printed)) }
