use Rattle.std.proofs.Common.{subst}
use Rattle.solver_models.specs.Replying.{swap_reply}
use Rattle.ls_solver.specs.Answers.{IsReply}
use Rattle.ls_solver.proofs.solver.Solver.swap_delta.Goals as goal

pub returns-clause-reply : goal.returns-clause-reply
returns-clause-reply g c = subst (λ k. IsReply (swap_reply c.args.self.now k c.args.x c.args.y) c.swap_delta_of.result) c.of_system.ensures c.swap_delta_of.ensures.reply
