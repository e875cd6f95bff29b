use Rattle.std.proofs.Common.{refl, rules, ℤ, w64, FitsSigned}
use Rattle.std.proofs.lemmas.Int.{to_z-of_z}
use Rattle.run_objects.specs.OfRunState.Acts.{index_written}
use Rattle.run_objects.specs.OfRunState.Targets.{target_seen}
use Rattle.run_values.specs.Views.{value_seen}
use Rattle.run_steps.proofs.Behind.{err_passes, ok_acts}
use Rattle.run_steps.proofs.Goes.{goes_index_written}
use Rattle.run_steps.proofs.operands.target_in_array.Goals as goal

pub returns-in-Err : goal.returns-in-Err
returns-in-Err c = record { did = λ printed. err_passes (λ (z : ℤ). z) c.args.index c.in-Err.stop _ (index_written c.args.at (value_seen c.args.array.now)) c.in-Err.is (λ z. goes_index_written _ _ z) }

pub returns-in-Ok : goal.returns-in-Ok
returns-in-Ok c = record { did = λ printed. let f : FitsSigned w64 c.in-Ok.index = search rules in ok_acts (λ (z : ℤ). z) target_seen c.args.index c.in-Ok.index _ _ _ (index_written c.args.at (value_seen c.args.array.now)) c.in-Ok.is (λ z. goes_index_written _ _ z) refl (rw (to_z-of_z w64 c.in-Ok.index f) at (c.index_target.ensures.did printed)) }
