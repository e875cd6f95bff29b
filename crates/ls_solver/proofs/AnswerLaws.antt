-- What a call that isn't refused answers is the reply.
use Rattle.std.proofs.Common.{◌≡◌, ℤ, Option, None, Result, sym, subst}
use Rattle.cbl_base.specs.declared.faults.RunFault.{RunFault}
use Rattle.model_values.specs.Asked.{IsAnswer}
use Rattle.model_values.specs.declared.asked.AskStop.{AskStop}
use Rattle.solver_models.specs.Replying.{replied}
use Rattle.solver_models.specs.State.{SolverState}
use Rattle.ls_solver.specs.Answers.{IsReply}
use Rattle.ls_solver.specs.declared.fault.SolverFault.{SolverFault}

-- the answer under what is kept is the reply in the state that is seen
pub answered_there : (refusal : SolverState → Option RunFault) (reply : SolverState → Result ℤ AskStop) (kept s : SolverState) → kept ≡ s → refusal s ≡ None → (answer : Result ℤ AskStop) (result : Result ℤ SolverFault) →
    ((r : Result ℤ AskStop) → IsAnswer r answer → IsReply r result) → IsAnswer (reply kept) answer → IsReply (replied (refusal s) (reply s)) result
answered_there refusal reply kept s view none answer result gives is =
    subst (λ o. IsReply (replied o (reply s)) result) (sym none) (gives (reply s) (subst (λ (t : SolverState). IsAnswer (reply t) answer) view is))
