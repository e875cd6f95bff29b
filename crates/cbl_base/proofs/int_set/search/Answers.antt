use Rattle.std.proofs.Common.{subst, w64}
use Rattle.std.specs.Ordering.{int_cmp}
use Rattle.std.specs.List.Sorted.{IsBinarySearchResult}
use Rattle.std.proofs.lemmas.Int.{to_z-of_z}
use Rattle.cbl_base.proofs.SetSearch.{searched, searched-member, searched-at, searched-between}
use Rattle.cbl_base.proofs.int_set.search.Goals as goal

pub returns : goal.returns
returns c =
    let at = searched c.args.v c.args.members.now c.binary_search.result c.requires c.binary_search.ensures.bound (subst (λ w. IsBinarySearchResult (λ y. int_cmp y w) c.args.members.now c.binary_search.result) (to_z-of_z w64 c.args.v c.ranges.v) c.binary_search.ensures.position) in
    record {
      found = searched-member _ _ _ at;
      at = searched-at _ _ _ at;
      between = searched-between _ _ _ at;
    }
