use Rattle.std.proofs.Common.{subst, w64}
use Rattle.std.proofs.lemmas.Int.{to_z-of_z}
use Rattle.solver_models.specs.Replying.{assign_reply}
use Rattle.ls_solver.specs.Answers.{IsReply}
use Rattle.ls_solver.proofs.solver.Solver.assign_delta_in.Goals as goal

pub returns : goal.returns
returns g c = subst (λ v. IsReply (assign_reply c.args.self.now c.args.k c.args.x v) c.delta_by.result) (to_z-of_z w64 c.args.v c.ranges.v) c.delta_by.ensures
