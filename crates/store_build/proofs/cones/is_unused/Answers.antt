use Rattle.std.proofs.Common.{◌≡◌, ◌∙◌, ℕ, List, ap}
use Rattle.cbl_base.specs.declared.ids.NodeId.{NodeId}
use Rattle.store_turns.specs.Meaning.{is_empty}
use Rattle.store_build.specs.Lists.{list_in}
use Rattle.store_build.proofs.ListLemmas.{in-read}
use Rattle.store_build.proofs.UnusedLists.{empty_is}
use Rattle.store_build.proofs.cones.is_unused.Goals as goal

pub returns : goal.returns
returns c =
    let same : c.as_slice.result.now ≡ list_in c.args.uses.now c.args.id = c.as_slice.ensures.value ∙ in-read c.args.uses.now c.args.id c.index-uses-id.result c.requires c.index-uses-id.is in
    c.is_empty.ensures ∙ empty_is c.as_slice.result.now ∙ ap (λ (us : List (NodeId × ℕ)). is_empty us) same
