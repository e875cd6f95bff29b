use Rattle.std.proofs.Common.{◌∙◌, refl, rules}
use Rattle.std.specs.Prelude.{FitsSigned}
use Rattle.std.proofs.Common.{w64}
use Rattle.run_steps.proofs.BeginLaws.{stopped_passes, did_exit, put_stops, put_went}
use Rattle.comet_meaning.proofs.Rows.{names_start, names_end, names_step, names_err}
use Rattle.run_steps.proofs.tuples.bind_names.Goals as goal

pub loop-entered-init : goal.loop-entered-init
loop-entered-init c = record { left = λ printed. names_start _ _ _ _ refl; fuel = refl }

pub returns-in_err-put-clause-did : goal.returns-in_err-put-clause-did
returns-in_err-put-clause-did c = let f : FitsSigned w64 c.entered-item.result.value = search rules in λ printed. did_exit _ _ _ _ _ c.from_residual.ensures.1 (names_err (c.loop-entered.invariant.left printed) _ c.loop-entered-test.true c.entered-item.is _ (stopped_passes _ _) (put_stops _ _ _ _ f _ (c.in_err-put.ensures.did printed)))

pub loop-entered-preserved : goal.loop-entered-preserved
loop-entered-preserved c = let f : FitsSigned w64 c.entered-item.result.value = search rules in record { left = λ printed. names_step (c.loop-entered.invariant.left printed) _ c.loop-entered-test.true c.entered-item.is (put_went _ _ _ _ f (c.in_ok-put.ensures.did printed)); fuel = c.in_ok-put.ensures.fuel ∙ c.loop-entered.invariant.fuel }

pub returns-clause-did : goal.returns-clause-did
returns-clause-did c = λ printed. names_end (c.loop-entered.invariant.left printed) c.loop-entered-test.false
