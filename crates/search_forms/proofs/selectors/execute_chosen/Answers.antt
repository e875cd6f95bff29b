-- The names, and then the body.
use Rattle.std.proofs.Common.{refl}
use Rattle.comet_meaning.proofs.GoingParts.{goes_bind}
use Rattle.comet_meaning.proofs.GoingStatements.{goes_level}
use Rattle.run_steps.proofs.Exits.{after, exit}
use Rattle.run_steps.proofs.Stops.{stopped_then}
use Rattle.search_forms.proofs.selectors.execute_chosen.Goals as goal

pub returns-in_err-bind_values-in-Some : goal.returns-in_err-bind_values-in-Some
returns-in_err-bind_values-in-Some g c =
    let bound = rw c.deref.ensures.value at (c.in_err-bind_values-in-Some.ensures.did (g.O.Outside.told c.args.out.now)) in
    record { did = rw c.in-Some.is (exit _ _ _ _ _ c.from_residual.ensures.1 (stopped_then _ _ _ _ (goes_bind _) refl (λ _. (goes_level _ _).stmt _) bound)) }

pub returns-in_ok-bind_values-in-Some : goal.returns-in_ok-bind_values-in-Some
returns-in_ok-bind_values-in-Some g c =
    let bound = rw c.deref.ensures.value at (c.in_ok-bind_values-in-Some.ensures.did (g.O.Outside.told c.args.out.now)) in
    record { did = rw c.in-Some.is (after _ _ _ _ bound c.execute.ensures.did) }
