use Rattle.std.proofs.Common.{◌<◌, take, All}
use Rattle.store_runs.specs.Linked.{AreWithin}
use Rattle.store_runs.proofs.stores.are_within.Given as goal

abbrev pub invariant-loop-list : goal.invariant-loop-list
invariant-loop-list l = AreWithin l.fn.count l.fn.most (take l.list-index l.lists)

abbrev pub invariant-loop-id : goal.invariant-loop-id
invariant-loop-id l = All (λ i. i < l.fn.count) (take l.id-index l.id-items)
