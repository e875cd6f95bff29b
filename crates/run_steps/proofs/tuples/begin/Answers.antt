use Rattle.std.proofs.Common.{sym, subst}
use Rattle.run_steps.proofs.BeginLaws.{did_exit, begun_charge_stops, begun_bind_stops, begun_is, put_did}
use Rattle.run_values.specs.Did.{Did}
use Rattle.run_steps.proofs.tuples.begin.Goals as goal

pub returns-in_err-charge-clause-did : goal.returns-in_err-charge-clause-did
returns-in_err-charge-clause-did c = λ printed. did_exit _ _ _ _ _ c.from_residual.ensures.1 (begun_charge_stops _ _ _ _ _ _ _ (c.in_err-charge.ensures.did printed))

pub returns-in_err-bind_names-clause-did : goal.returns-in_err-bind_names-clause-did
returns-in_err-bind_names-clause-did c = λ printed. did_exit _ _ _ _ _ c.from_residual-in_err-bind_names.ensures.1 (begun_bind_stops _ _ _ _ _ _ _ (c.in_ok-charge.ensures.did printed) (c.in_err-bind_names.ensures.did printed))

pub returns-clause-did : goal.returns-clause-did
returns-clause-did c = λ printed. subst (Did _ _ _) (sym (begun_is _ _ _ _ _ (c.in_ok-charge.ensures.did printed) (c.in_ok-bind_names.ensures.did printed))) (put_did _ _ _ _ c.ranges.value _ (c.put.ensures.did printed))
