use Rattle.std.proofs.Common.{map}
use Rattle.comet_meaning.specs.Builtins.{builtin_value}
use Rattle.comet_meaning.proofs.GoingOn.{goes_then, goes_charge}
use Rattle.comet_meaning.proofs.GoingExpressions.{goes_builtin_value}
use Rattle.run_objects.specs.OfRunState.Views.{state_seen}
use Rattle.run_values.specs.Views.{value_seen}
use Rattle.run_steps.specs.Operands.{called_builtin}
use Rattle.run_steps.proofs.Behind.{err_passes, ok_does}
use Rattle.run_steps.proofs.Exits.{act_does, act_exit, after}
use Rattle.run_steps.proofs.operands.call_builtin.Goals as goal

pub returns-in-Err : goal.returns-in-Err
returns-in-Err c = record { did = λ printed. err_passes _ c.args.arguments c.in-Err.stop _ (called_builtin c.args.at c.args.function) c.in-Err.is (λ vs. goes_then (goes_charge 1 _) (λ _. goes_builtin_value c.args.at c.args.function vs)) }

pub returns-in_err-charge-in-Ok : goal.returns-in_err-charge-in-Ok
returns-in_err-charge-in-Ok c = record { did = λ printed. ok_does _ value_seen c.args.arguments c.in-Ok.values _ _ _ (called_builtin c.args.at c.args.function) c.in-Ok.is (act_exit value_seen _ _ _ (λ _. builtin_value c.args.at c.args.function (map value_seen c.in-Ok.values.items)) _ c.from_residual.ensures.1 (c.in_err-charge-in-Ok.ensures.did printed) ((goes_charge 1 c.args.at).from _).printed (λ _. goes_builtin_value c.args.at c.args.function (map value_seen c.in-Ok.values.items))) }

pub returns-in_ok-charge-in-Ok : goal.returns-in_ok-charge-in-Ok
returns-in_ok-charge-in-Ok c = record { did = λ printed. ok_does _ value_seen c.args.arguments c.in-Ok.values _ _ _ (called_builtin c.args.at c.args.function) c.in-Ok.is (after value_seen _ _ (λ _. builtin_value c.args.at c.args.function (map value_seen c.in-Ok.values.items)) (c.in_ok-charge-in-Ok.ensures.did printed) (act_does value_seen _ _ _ (rw c.deref.ensures.value at (c.builtin.ensures.did (state_seen c.charge.new.self printed))) ((goes_builtin_value c.args.at c.args.function (map value_seen c.in-Ok.values.items)).from _).printed)) }
