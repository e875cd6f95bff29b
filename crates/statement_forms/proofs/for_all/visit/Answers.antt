use Rattle.std.proofs.Common.{refl}
use Rattle.comet_meaning.proofs.GoingOn.{goes_give, goes_if}
use Rattle.comet_meaning.proofs.GoingStatements.{goes_level}
use Rattle.std.proofs.lemmas.Result.{err_from_is_err_and}
use Rattle.comet_meaning.specs.Loops.{visited}
use Rattle.run_steps.proofs.Steps.{referred}
use Rattle.run_steps.proofs.Stops.{ended_then}
use Rattle.statement_forms.proofs.for_all.visit.Goals as goal

pub returns-in_err-holds : goal.returns-in_err-holds
unfolding visited
returns-in_err-holds g c = let p = err_from_is_err_and c.from_residual.result c.from_residual.ensures.1 in record { did = λ v x. rw (p.1, p.2) (ended_then _ _ _ _ (λ t. goes_if t ((goes_level _ _).stmt _) goes_give) (rw (referred c.as_ref.result, c.as_ref.ensures.value) at c.in_err-holds.ensures.did)) }

pub returns-then-holds : goal.returns-then-holds
unfolding visited
returns-then-holds g c = record { did = λ v x. rw (rw (referred c.as_ref.result, c.as_ref.ensures.value) at c.in_ok-holds.ensures.did, c.if-holds.true) c.execute.ensures.did }

pub returns-else-holds : goal.returns-else-holds
unfolding visited
returns-else-holds g c = record { did = λ v x. rw (rw (referred c.as_ref.result, c.as_ref.ensures.value) at c.in_ok-holds.ensures.did, c.if-holds.false) refl }
