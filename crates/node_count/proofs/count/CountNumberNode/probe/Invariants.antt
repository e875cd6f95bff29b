use Rattle.std.proofs.Common.{◌≡◌, take, [], ◌∷◌, ◌++◌}
use Rattle.cbl_base.specs.Counts.{count_of}
use Rattle.node_base.specs.NumberChanges.{after_number_changes}
use Rattle.node_count.proofs.count.CountNumberNode.probe.Given as goal

abbrev pub invariant-loop-change : goal.invariant-loop-change
invariant-loop-change l =
    l.times ≡ count_of l.counted (take l.cells (after_number_changes (l.self.cells ++ l.self.counted ∷ []) (take l.change-index l.changes)))
