use Rattle.std.proofs.Common.{pos, rules, sym, ap, ◌∙◌, w64}
use Rattle.std.proofs.lemmas.Int.{to_z-of_z}
use Rattle.user_constraint.proofs.KeptLaws.{kept_at}
use Rattle.user_constraint.proofs.node.UserNodeNumberNode.place_violation.Goals as goal

pub returns : goal.returns
returns g c = to_z-of_z w64 c.place_violation.result (search rules) ∙ c.place_violation.ensures ∙ ap pos (sym (kept_at (g.U.LocalConstraint.user_rule c.args.self.now.user) (g.U.LocalConstraint.held c.args.self.now.user) c.args.place c.requires.settled.1 c.requires.within))
