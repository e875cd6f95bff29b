use Rattle.std.proofs.Common.{◌+◌, ◌*◌, ◌≤◌, of_z, subst, to_z, w64}
use Rattle.std.proofs.lemmas.Int.{to_z-of_z}
use Rattle.model_values.specs.declared.deltas.Move.TheVariants.{Assign}
use Rattle.solver_models.specs.Replying.{assign_reply}
use Rattle.solver_models.specs.Totals.{of_system}
use Rattle.ls_solver.specs.Answers.{IsReply}
use Rattle.ls_solver.specs.Touching.{touch_of_move}
use Rattle.ls_solver.proofs.solver.Solver.assign_delta.Goals as goal

pub returns-clause-reply : goal.returns-clause-reply
returns-clause-reply g c =
    subst (λ v. IsReply (assign_reply c.args.self.now (of_system c.args.s) c.args.x v) c.assign_delta_of.result) (to_z-of_z w64 c.args.v c.ranges.v)
    (subst (λ k. IsReply (assign_reply c.args.self.now k c.args.x (to_z w64 (of_z w64 c.args.v))) c.assign_delta_of.result) c.of_system.ensures c.assign_delta_of.ensures.reply)

pub returns-clause-steps : goal.returns-clause-steps
returns-clause-steps g c =
    subst (λ v. c.assign_delta_of.new.steps ≤ c.args.steps.now + 4 * touch_of_move c.args.self.now (Assign c.args.x.index v)) (to_z-of_z w64 c.args.v c.ranges.v) c.assign_delta_of.ensures.steps
