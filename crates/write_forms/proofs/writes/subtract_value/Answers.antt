use Rattle.std.proofs.Common.{refl, ◌-ℤ◌}
use Rattle.comet_meaning.proofs.GoingOn.{goes_then}
use Rattle.comet_meaning.proofs.GoingParts.{goes_number}
use Rattle.comet_meaning.proofs.GoingStatements.{goes_level, goes_changed, goes_old_value}
use Rattle.comet_meaning.specs.Writes.{add_form}
use Rattle.std.proofs.lemmas.Result.{err_from_is_err_and}
use Rattle.comet_meaning.specs.Values.{number_of}
use Rattle.run_steps.specs.OfRunState.Targets.{target_seen}
use Rattle.run_steps.proofs.Stops.{ended_then, stopped_then}
use Rattle.write_forms.proofs.writes.subtract_value.Goals as goal

pub returns-in_err-target : goal.returns-in_err-target
unfolding add_form
returns-in_err-target g c = let p = err_from_is_err_and c.from_residual.result c.from_residual.ensures.1 in record { did = rw (p.1, p.2) (ended_then _ _ _ _ (λ x. goes_then (goes_old_value x) (λ old. goes_then (goes_number _ (goes_level _ _) _) (λ z. goes_changed c.args.at x (number_of old -ℤ z)))) c.in_err-target.ensures.did) }

pub returns-in_err-old : goal.returns-in_err-old
unfolding add_form
returns-in_err-old g c = let p = err_from_is_err_and c.from_residual-in_err-old.result c.from_residual-in_err-old.ensures.1 in record { did = rw (p.1, p.2, c.in_ok-target.ensures.did) (stopped_then _ _ _ _ (goes_old_value _) refl (λ old. goes_then (goes_number _ (goes_level _ _) _) (λ z. goes_changed c.args.at (target_seen c.in_ok-target.target) (number_of old -ℤ z))) (c.in_err-old.ensures.did _)) }

pub returns : goal.returns
unfolding add_form
returns g c = record { did = rw (c.in_ok-target.ensures.did, c.in_ok-old.ensures.did (g.O.Outside.told c.target_of.new.out)) (c.subtract_part.ensures.did _ c.number_of-number.ensures.did) }
