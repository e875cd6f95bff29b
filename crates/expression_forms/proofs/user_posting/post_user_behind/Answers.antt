use Rattle.std.proofs.Common.{w64}
use Rattle.std.proofs.lemmas.Int.{to_z-of_z}
use Rattle.comet_meaning.specs.Posting.{post_taken}
use Rattle.comet_meaning.proofs.GoingExpressions.{goes_post_taken}
use Rattle.comet_meaning.proofs.GoingOn.{goes_charge}
use Rattle.run_values.specs.Views.{value_seen}
use Rattle.run_steps.proofs.Exits.{act_exit, after}
use Rattle.expression_forms.proofs.user_posting.post_user_behind.Goals as goal

pub returns-in_err-charge : goal.returns-in_err-charge
returns-in_err-charge g c = record { did = let told = g.O.Outside.told c.args.out.now in act_exit value_seen _ _ _ (λ _. post_taken c.args.at c.args.taken c.args.places.items c.args.weight (value_seen c.args.object.now)) _ c.from_residual.ensures.1 (c.in_err-charge.ensures.did told) ((goes_charge 1 c.args.at).from _).printed (λ _. goes_post_taken _ _ _ _ _) }

pub returns : goal.returns
returns g c = record {
  did =
      let told = g.O.Outside.told c.args.out.now in
      after value_seen _ _ (λ _. post_taken c.args.at c.args.taken c.args.places.items c.args.weight (value_seen c.args.object.now)) (c.in_ok-charge.ensures.did told) (rw (to_z-of_z w64 c.args.weight c.ranges.weight) at c.post_taken.ensures.did);
}
