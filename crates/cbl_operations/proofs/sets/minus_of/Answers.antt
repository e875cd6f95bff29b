use Rattle.std.proofs.Common.{ap, ◌∙◌, not}
use Rattle.std.specs.Prelude.{filter}
use Rattle.cbl_base.specs.Sets.{is_member}
use Rattle.cbl_operations.proofs.GivenSets.{given_set}
use Rattle.cbl_operations.proofs.sets.minus_of.Goals as goal

pub returns : goal.returns
returns c =
    let found = c.deref.ensures.value ∙ c.in_ok-members.ensures ∙ ap (λ s. filter (λ v. not (is_member v c.args.b.now)) s) c.as_slice.ensures.members in
    given_set c.from_slice.result _ _ c.from_slice.ensures found
