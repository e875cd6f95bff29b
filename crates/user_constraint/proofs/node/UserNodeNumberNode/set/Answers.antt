use Rattle.std.proofs.Common.{◌≡◌, ℤ, true, set, rules, sym, subst, w64, FitsSigned}
use Rattle.std.proofs.lemmas.Int.{to_z-of_z}
use Rattle.user_constraint.specs.KeptRule.{is_kept}
use Rattle.user_constraint.proofs.KeptLaws.{kept_set, on_ok}
use Rattle.user_constraint.proofs.node.UserNodeNumberNode.set.Goals as goal

pub returns-clause-settled : goal.returns-clause-settled
returns-clause-settled g c =
    let held = g.U.LocalConstraint.held c.args.self.now.user in
    let fits : FitsSigned w64 c.args.change.new = search rules in
    on_ok _ _ _ c.assign.result c.assign.ensures.usable c.assign.ensures.held
    (subst (λ (z : ℤ). is_kept (set held c.args.change.place z) ≡ true) (sym (to_z-of_z w64 c.args.change.new fits)) (kept_set held c.args.change.place c.args.change.new c.requires.settled.1 fits))
