use Rattle.std.proofs.Common.{◌+◌, ◌*◌, ◌≤◌, subst, w64}
use Rattle.std.proofs.lemmas.Int.{to_z-of_z}
use Rattle.model_values.specs.declared.deltas.Move.TheVariants.{Assign}
use Rattle.solver_models.specs.Replying.{assign_reply}
use Rattle.ls_solver.specs.Answers.{IsReply}
use Rattle.ls_solver.specs.Touching.{touch_of_move}
use Rattle.ls_solver.proofs.solver.Solver.assign_delta_of.Goals as goal

pub returns-clause-reply : goal.returns-clause-reply
returns-clause-reply g c = subst (λ v. IsReply (assign_reply c.args.self.now c.args.k c.args.x v) c.delta.result) (to_z-of_z w64 c.args.v c.ranges.v) c.delta.ensures.reply

pub returns-clause-steps : goal.returns-clause-steps
returns-clause-steps g c = subst (λ v. c.delta.new.steps ≤ c.args.steps.now + 4 * touch_of_move c.args.self.now (Assign c.args.x.index v)) (to_z-of_z w64 c.args.v c.ranges.v) c.delta.ensures.steps
