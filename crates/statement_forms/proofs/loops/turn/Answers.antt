use Rattle.std.proofs.Common.{refl}
use Rattle.comet_meaning.proofs.GoingOn.{goes_then, goes_give, goes_if, goes_charge}
use Rattle.comet_meaning.proofs.GoingParts.{goes_condition}
use Rattle.comet_meaning.proofs.GoingStatements.{goes_level, goes_behind_body, goes_step}
use Rattle.std.proofs.lemmas.Result.{err_from_is_err_and}
use Rattle.comet_meaning.specs.Loops.{turn_form}
use Rattle.run_steps.proofs.Stops.{ended_then, stopped_then}
use Rattle.statement_forms.proofs.loops.turn.Goals as goal

pub returns-in_err-charge : goal.returns-in_err-charge
unfolding turn_form
returns-in_err-charge g c = let p = err_from_is_err_and c.from_residual.result c.from_residual.ensures.1 in record { did = rw (p.1, p.2) (stopped_then _ _ _ _ (goes_charge _ _) refl (λ _. goes_then (goes_condition _ (goes_level _ _) _) (λ t. goes_if t (goes_then ((goes_level _ _).stmt _) (λ flow. goes_behind_body (goes_step _ (goes_level _ _) _ _) flow)) goes_give)) (c.in_err-charge.ensures.did _)) }

pub returns-in_err-test : goal.returns-in_err-test
unfolding turn_form
returns-in_err-test g c = let p = err_from_is_err_and c.from_residual-in_err-test.result c.from_residual-in_err-test.ensures.1 in record { did = rw (p.1, p.2, c.in_ok-charge.ensures.did (g.O.Outside.told c.args.out.now)) (ended_then _ _ _ _ (λ t. goes_if t (goes_then ((goes_level _ _).stmt _) (λ flow. goes_behind_body (goes_step _ (goes_level _ _) _ _) flow)) goes_give) c.in_err-test.ensures.did) }

pub returns-in_err-flow : goal.returns-in_err-flow
unfolding turn_form
returns-in_err-flow g c = let p = err_from_is_err_and c.from_residual-in_err-flow.result c.from_residual-in_err-flow.ensures.1 in record { did = rw (p.1, p.2, c.in_ok-charge.ensures.did (g.O.Outside.told c.args.out.now), c.in_ok-test.ensures.did, c.if-test.true) (ended_then _ _ _ _ (λ flow. goes_behind_body (goes_step _ (goes_level _ _) _ _) flow) c.in_err-flow.ensures.did) }

pub returns-else-test : goal.returns-else-test
unfolding turn_form
returns-else-test g c = record { did = rw (c.in_ok-charge.ensures.did (g.O.Outside.told c.args.out.now), c.in_ok-test.ensures.did, c.if-test.false) refl }
