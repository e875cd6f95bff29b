use Rattle.std.proofs.Common.{refl, arith}
use Rattle.comet_meaning.proofs.GoingStatements.{goes_level}
use Rattle.comet_meaning.proofs.Rows.{prints_end, prints_start, prints_step}
use Rattle.std.proofs.lemmas.Result.{err_from_is_err_and}
use Rattle.run_steps.proofs.Steps.{prints_stop}
use Rattle.write_forms.proofs.printing.print_all.Goals as goal

pub loop-item-init : goal.loop-item-init
loop-item-init g c = prints_start _ _ _ _ _ refl

pub returns-in_err-show : goal.returns-in_err-show
returns-in_err-show g c = let p = err_from_is_err_and c.from_residual.result c.from_residual.ensures.1 in record { did = rw (p.1, p.2) (prints_stop c.loop-item.invariant _ c.loop-item-test.true c.item-item.is (goes_level _ _) _ _ c.in_err-show.ensures.did) }

pub loop-item-preserved : goal.loop-item-preserved
loop-item-preserved g c = prints_step c.loop-item.invariant _ c.loop-item-test.true c.item-item.is c.in_ok-show.ensures.did

pub returns : goal.returns
returns g c = record { did = prints_end c.loop-item.invariant (omega arith) }
