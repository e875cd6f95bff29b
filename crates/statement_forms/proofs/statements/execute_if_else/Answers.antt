use Rattle.comet_meaning.proofs.GoingOn.{goes_if}
use Rattle.comet_meaning.proofs.GoingStatements.{goes_level}
use Rattle.std.proofs.lemmas.Result.{err_from_is_err_and}
use Rattle.comet_meaning.specs.Loops.{if_else_form}
use Rattle.run_steps.proofs.Stops.{ended_then}
use Rattle.statement_forms.proofs.statements.execute_if_else.Goals as goal

pub returns-in_err-test : goal.returns-in_err-test
unfolding if_else_form
returns-in_err-test g c = let p = err_from_is_err_and c.from_residual.result c.from_residual.ensures.1 in record { did = rw (p.1, p.2) (ended_then _ _ _ _ (λ t. goes_if t ((goes_level _ _).stmt _) ((goes_level _ _).stmt _)) c.in_err-test.ensures.did) }
