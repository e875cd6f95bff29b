use Rattle.std.proofs.Common.{◌∙◌, ap, sym, Ok}
use Rattle.cbl_base.specs.Changes.{after_changes}
use Rattle.cbl_operations.specs.SetForms.{rule_of_two_sets}
use Rattle.node_set.specs.Combining.{both, combined}
use Rattle.node_set.proofs.Probes.{value_of_copy}
use Rattle.node_set.proofs.two_sets.TwoSetsNodeRule.probe.Goals as goal

pub returns : goal.returns
returns c =
    let copy = c.in_ok-changed.changed in
    let new = c.apply.new.self in
    value_of_copy (rule_of_two_sets (combined c.args.self.now.combining)) (rule_of_two_sets (combined new.combining)) (both new.first new.second) _ new.kept
    (c.in_ok-apply.ensures.rule ∙ ap (λ h. rule_of_two_sets (combined h)) c.in_ok-changed.ensures.combining)
    (c.in_ok-apply.ensures.held ∙ ap (λ z. after_changes (both z copy.second) c.args.changes.now) c.in_ok-changed.ensures.first ∙ ap (λ z. after_changes (both c.args.self.now.first z) c.args.changes.now) c.in_ok-changed.ensures.second)
    (ap Ok (sym c.in_ok-apply.ensures.ready))
