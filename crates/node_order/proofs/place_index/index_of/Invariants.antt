use Rattle.std.proofs.Common.{take}
use Rattle.node_order.specs.PlaceIndex.{IsIndexOf}
use Rattle.node_order.proofs.place_index.index_of.Given as goal

abbrev pub invariant-loop-place : goal.invariant-loop-place
invariant-loop-place l = IsIndexOf l.index (take l.place l.numbers)
