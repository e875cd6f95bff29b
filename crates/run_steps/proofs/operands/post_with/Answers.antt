use Rattle.std.proofs.Common.{ℤ, w64, FitsSigned, rules}
use Rattle.std.proofs.lemmas.Int.{to_z-of_z}
use Rattle.comet_meaning.proofs.GoingOn.{goes_then, goes_charge}
use Rattle.comet_meaning.proofs.GoingSystems.{goes_post}
use Rattle.run_values.specs.Views.{value_seen}
use Rattle.run_steps.specs.Operands.{posted_with}
use Rattle.run_steps.proofs.Behind.{err_passes, ok_does}
use Rattle.run_steps.proofs.operands.post_with.Goals as goal

pub returns-in-Err : goal.returns-in-Err
returns-in-Err g c = record { did = let printed = (g.O.Outside.told c.args.out.now) in err_passes (λ (z : ℤ). z) c.args.weight c.in-Err.stop _ (posted_with c.args.at (value_seen c.args.object.now) c.args.term) c.in-Err.is (λ z. goes_then (goes_charge 1 _) (λ _. goes_post _ _ z _)) }

pub returns-in-Ok : goal.returns-in-Ok
returns-in-Ok g c = record { did = let printed = (g.O.Outside.told c.args.out.now) in let f : FitsSigned w64 c.in-Ok.weight = search rules in ok_does (λ (z : ℤ). z) value_seen c.args.weight c.in-Ok.weight _ _ _ (posted_with c.args.at (value_seen c.args.object.now) c.args.term) c.in-Ok.is (rw (to_z-of_z w64 c.in-Ok.weight f) at (c.post_behind.ensures.did)) }
