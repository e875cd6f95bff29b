use Rattle.std.proofs.Common.{map}
use Rattle.comet_meaning.proofs.GoingExpressions.{goes_handed, goes_body}
use Rattle.run_values.specs.Views.{value_seen}
use Rattle.comet_meaning.proofs.GoingOn.{goes_then, goes_charge}
use Rattle.comet_meaning.proofs.GoingStatements.{goes_level}
use Rattle.run_steps.proofs.Exits.{after, call_exit, act_exit}
use Rattle.expression_forms.proofs.calls.call.Goals as goal

pub returns-in_err-values : goal.returns-in_err-values
returns-in_err-values g c = record { did = call_exit _ _ _ _ _ _ c.from_residual.ensures.1 (rw c.deref.ensures.value at c.in_err-values.ensures.did) (λ vs. goes_then (goes_charge 1 _) (λ _. goes_then (goes_handed _ vs) (λ ws. goes_body _ (goes_level _ _) _ ws))) }

pub returns-in_err-charge : goal.returns-in_err-charge
returns-in_err-charge g c = record { did = after _ _ _ _ (rw c.deref.ensures.value at c.in_ok-values.ensures.did) (act_exit _ _ _ _ _ _ c.from_residual-in_err-charge.ensures.1 (c.in_err-charge.ensures.did _) ((goes_charge 1 _).from _).printed (λ _. goes_then (goes_handed c.args.pure (map value_seen c.in_ok-values.values.items)) (λ ws. goes_body _ (goes_level _ _) _ ws))) }

pub returns-in_err-handed : goal.returns-in_err-handed
returns-in_err-handed g c = record { did = after _ _ _ _ (rw c.deref.ensures.value at c.in_ok-values.ensures.did) (after _ _ _ _ (c.in_ok-charge.ensures.did _) (act_exit _ _ _ _ _ _ c.from_residual-in_err-handed.ensures.1 (c.in_err-handed.ensures.did _) ((goes_handed c.args.pure (map value_seen c.in_ok-values.values.items)).from _).printed (λ ws. goes_body _ (goes_level _ _) _ ws))) }
