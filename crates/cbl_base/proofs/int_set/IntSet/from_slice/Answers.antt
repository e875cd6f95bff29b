use Rattle.std.proofs.Common.{◌≡◌, ◌∙◌, subst, sym}
use Rattle.std.specs.Ordering.{int_eq}
use Rattle.std.specs.List.{dedup}
use Rattle.std.proofs.lemmas.List.Filters.{dedup_is}
use Rattle.cbl_base.specs.Sets.{IsRising}
use Rattle.cbl_base.proofs.SetSearch.{rising-dedup, dedup-set_of}
use Rattle.cbl_base.proofs.int_set.IntSet.from_slice.Goals as goal

pub invariant_of-result : goal.invariant_of-result
invariant_of-result c =
    let left : c.dedup.new.self.items ≡ dedup int_eq c.sort_unstable.new.self.items = dedup_is int_eq _ _ c.dedup.ensures.filtered in
    subst (λ t. IsRising t) (sym left) (rising-dedup _ c.sort_unstable.ensures.sorted)

pub returns : goal.returns
returns c =
    let left : c.dedup.new.self.items ≡ dedup int_eq c.sort_unstable.new.self.items = dedup_is int_eq _ _ c.dedup.ensures.filtered in
    left ∙ rw (← c.in_ok-members.ensures.items) (dedup-set_of _ _ c.sort_unstable.ensures.permutation c.sort_unstable.ensures.sorted)
