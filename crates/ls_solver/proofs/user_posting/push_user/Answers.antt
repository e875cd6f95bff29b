use Rattle.ls_solver.proofs.UserLaws.{user_pushed, users_pushed}
use Rattle.ls_solver.proofs.user_posting.push_user.Goals as goal

pub returns-clause-rules : goal.returns-clause-rules
returns-clause-rules g c = user_pushed _ c.args.waiting.now.items c.push_reserved.new.self.items c.user.result (g.U.LocalConstraint.user_rule c.args.user) c.push_reserved.ensures.items c.user.ensures

pub returns-clause-users : goal.returns-clause-users
returns-clause-users g c = users_pushed (λ x. (Rattle.node_kinds.specs.contracts.kind.KindOfNodeRule.TheImpl.ghosts g.row.U g.U.LocalConstraint g.U.LocalConstraint-dict g.U.Destruct-dict).rule x) c.args.waiting.now.items c.push_reserved.new.self.items c.user.result (g.U.LocalConstraint.user_rule c.args.user) c.push_reserved.ensures.items c.user.ensures
