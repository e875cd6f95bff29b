use Rattle.std.proofs.Common.{◌∙◌, ap}
use Rattle.cbl_operations.specs.SetForms.{members_of}
use Rattle.node_set.specs.Combining.{both}
use Rattle.node_set.proofs.Combined.{two_sets}
use Rattle.node_set.proofs.two_sets.TwoSetsNodeRule.reset.Goals as goal

pub returns-clause-held : goal.returns-clause-held
returns-clause-held c =
    ap (λ z. both z c.in_ok-self-2.field-0) c.in_ok-self.ensures
    ∙ ap (λ z. both (members_of c.index-inputs-0.result) z) c.in_ok-self-2.ensures
    ∙ two_sets c.args.inputs.now c.index-inputs-0.result c.index-inputs-1.result c.requires c.index-inputs-0.is c.index-inputs-1.is
