use Rattle.std.proofs.Common.{refl, arith}
use Rattle.comet_meaning.proofs.GoingStatements.{goes_level}
use Rattle.comet_meaning.proofs.Rows.{dimensions_end, dimensions_onward, dimensions_start, dimensions_step}
use Rattle.std.proofs.lemmas.Result.{err_from_is_err_and}
use Rattle.run_steps.proofs.Steps.{dimensions_stop}
use Rattle.run_effects.proofs.Filling.{seen_push}
use Rattle.declaration_forms.proofs.array_declarations.extents_of.Goals as goal

pub loop-dimension-init : goal.loop-dimension-init
loop-dimension-init g c = rw c.new-extents.ensures.items (dimensions_start _ _ _ _ _ refl)

pub returns-in_err-bounds : goal.returns-in_err-bounds
returns-in_err-bounds g c = let p = err_from_is_err_and c.from_residual.result c.from_residual.ensures.1 in record { did = rw (p.1, p.2) (dimensions_stop c.loop-dimension.invariant _ c.loop-dimension-test.true c.dimension-item.is (goes_level _ _) _ _ c.in_err-bounds.ensures.did) }

pub returns-in_err-push : goal.returns-in_err-push
returns-in_err-push g c = let p = err_from_is_err_and c.from_residual-in_err-push.result c.from_residual-in_err-push.ensures.1 in record { did = rw (p.1, p.2) ((dimensions_onward (dimensions_step c.loop-dimension.invariant _ c.loop-dimension-test.true c.dimension-item.is c.in_ok-bounds.ensures.did) (goes_level _ _)).printed) }

pub loop-dimension-preserved : goal.loop-dimension-preserved
loop-dimension-preserved g c = rw (c.in_ok-push.ensures.items, seen_push _ _) (dimensions_step c.loop-dimension.invariant _ c.loop-dimension-test.true c.dimension-item.is c.in_ok-bounds.ensures.did)

pub returns : goal.returns
returns g c = record { did = dimensions_end c.loop-dimension.invariant (omega arith) }
