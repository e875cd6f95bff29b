use Rattle.std.proofs.Common.{◌≡◌, take}
use Rattle.node_order.specs.Lowering.{lowest_with}
use Rattle.node_order.proofs.lowest.lowest_with.Given as goal

abbrev pub invariant-loop-change : goal.invariant-loop-change
invariant-loop-change l = l.lowest ≡ lowest_with l.fn.found (take l.change-index l.changes)
