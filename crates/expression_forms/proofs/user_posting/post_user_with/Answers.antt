use Rattle.std.proofs.Common.{ℤ, w64, FitsSigned, rules}
use Rattle.std.proofs.lemmas.Int.{to_z-of_z}
use Rattle.comet_meaning.proofs.GoingExpressions.{goes_post_taken}
use Rattle.comet_meaning.proofs.GoingOn.{goes_then, goes_charge}
use Rattle.run_values.specs.Views.{value_seen}
use Rattle.run_steps.proofs.Behind.{err_passes, ok_does}
use Rattle.expression_forms.specs.UserSteps.{user_posted_with}
use Rattle.expression_forms.proofs.user_posting.post_user_with.Goals as goal

pub returns-in-Err : goal.returns-in-Err
returns-in-Err g c = record { did = err_passes (λ (z : ℤ). z) c.args.weight c.in-Err.stop _ (user_posted_with c.args.at c.args.taken c.args.places.items (value_seen c.args.object.now)) c.in-Err.is (λ z. goes_then (goes_charge 1 _) (λ _. goes_post_taken _ _ _ z _)) }

pub returns-in-Ok : goal.returns-in-Ok
returns-in-Ok g c = record { did = let f : FitsSigned w64 c.in-Ok.weight = search rules in ok_does (λ (z : ℤ). z) value_seen c.args.weight c.in-Ok.weight _ _ _ (user_posted_with c.args.at c.args.taken c.args.places.items (value_seen c.args.object.now)) c.in-Ok.is (rw (to_z-of_z w64 c.in-Ok.weight f) at (c.post_user_behind.ensures.did)) }
