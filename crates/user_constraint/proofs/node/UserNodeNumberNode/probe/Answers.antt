-- What the constraint tells of the numbers is what is kept of its rule, since they have 64 bits.
use Rattle.std.proofs.Common.{Ok, ℕ, ℤ, pos, rules, sym, ap, ◌∙◌, w64, FitsSigned}
use Rattle.std.proofs.lemmas.Int.{to_z-of_z}
use Rattle.node_base.specs.NumberChanges.{after_number_changes}
use Rattle.user_constraint.proofs.KeptLaws.{kept_changes, kept_value}
use Rattle.user_constraint.proofs.node.UserNodeNumberNode.probe.Goals as goal

pub returns : goal.returns
returns g c =
    let rule = g.U.LocalConstraint.user_rule c.args.self.now.user in
    let held = g.U.LocalConstraint.held c.args.self.now.user in
    let fits : FitsSigned w64 c.in_ok-ask.field-0 = search rules in
    let are = kept_changes held c.args.changes.now c.requires.settled.1 c.see_changes.ensures in
    rw (to_z-of_z w64 c.in_ok-ask.field-0 fits) (ap (λ (n : ℕ). Ok (pos n)) (kept_value rule (after_number_changes held c.args.changes.now) are) ∙ ap (λ (z : ℤ). Ok z) (sym c.in_ok-ask.ensures))
