use Rattle.comet_meaning.proofs.GoingOn.{goes_new_variables, goes_put}
use Rattle.run_steps.proofs.Exits.{act_does, act_exit, after}
use Rattle.run_effects.proofs.declaring.put_variables.Goals as goal

pub returns-in_err-array : goal.returns-in_err-array
returns-in_err-array c = record { did = λ printed. act_exit _ _ _ _ _ _ c.from_residual.ensures.1 (rw c.variables_of.ensures at (c.in_err-array.ensures.did printed)) ((goes_new_variables _).from _).printed (λ a. goes_put _ a) }

pub returns : goal.returns
returns c = record { did = λ printed. after _ _ _ _ (rw c.variables_of.ensures at (c.in_ok-array.ensures.did printed)) (act_does _ _ _ _ (c.put.ensures.did printed) ((goes_put _ _).from _).printed) }
