use Rattle.checked_tree.specs.Shape.{seen}
use Rattle.comet_meaning.proofs.GoingStatements.{goes_level}
use Rattle.comet_meaning.proofs.Rows.{items_wholes_of}
use Rattle.run_steps.proofs.Exits.{ends_passes, exit, memory_exit}
use Rattle.expression_forms.proofs.MethodLaws.{asked_start, asked_end, asked_onward, asked_step, asked_err, asked_pushed}
use Rattle.expression_forms.proofs.methods.asked_values.Goals as goal

pub loop-e-init : goal.loop-e-init
loop-e-init g c = rw c.new-values.ensures.items (asked_start _ _ _ _ _ _ (items_wholes_of seen _))

pub returns-in_err-value : goal.returns-in_err-value
returns-in_err-value g c = record { did = exit _ _ _ _ _ c.from_residual.ensures.1 (asked_err c.loop-e.invariant _ c.loop-e-test.true c.e-item.is _ (ends_passes _ _) (goes_level _ _) c.in_err-value.ensures.did) }

pub returns-in_err-push : goal.returns-in_err-push
returns-in_err-push g c = record { did = memory_exit _ _ _ _ c.from_residual-in_err-push.ensures.1 (asked_onward (asked_step c.loop-e.invariant _ c.loop-e-test.true c.e-item.is c.in_ok-value.ensures.did) (goes_level _ _)).printed }

pub loop-e-preserved : goal.loop-e-preserved
loop-e-preserved g c = asked_pushed _ _ _ _ _ _ _ _ _ _ c.in_ok-push.ensures.items c.saturating_sub-left.ensures (asked_step c.loop-e.invariant _ c.loop-e-test.true c.e-item.is c.in_ok-value.ensures.did)

pub returns : goal.returns
returns g c = record { did = asked_end c.loop-e.invariant c.loop-e-test.false }
