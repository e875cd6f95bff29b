use Rattle.std.proofs.Common.{refl, rules, subst, sym}
use Rattle.model_values.specs.Delta.{delta_of}
use Rattle.posted_users.specs.KeptRule.{users_of}
use Rattle.solver_models.specs.Replying.{replied}
use Rattle.solver_models.specs.Totals.{whole_of}
use Rattle.solver_models.proofs.ReplyLaws.{replies, total_replies}
use Rattle.ls_solver.specs.Answers.{IsReply}
use Rattle.ls_solver.proofs.solver.Solver.delta.Goals as goal

pub delta_of_own-requires : goal.delta_of_own-requires
delta_of_own-requires g c κs within =
    let s = c.args.self.now in
    let none = sym c.in-None.ensures in
    (search (rules, within), (search (rules, within), (refl, (c.requires.usable, ((replies s c.args.k c.args.vars.now none).0, (total_replies s c.args.k c.args.vars.now none, c.requires.own none))))))

pub returns-in-None-clause-reply : goal.returns-in-None-clause-reply
returns-in-None-clause-reply g c =
    let s = c.args.self.now in
    let reply = delta_of (users_of s.rules) s.model s.assignment (whole_of c.args.k) c.args.change in
    subst (λ o. IsReply (replied o reply) c.reply_of.result) c.in-None.ensures (c.reply_of.ensures reply c.delta_of_own.ensures.answer)
