use Rattle.std.proofs.Common.{◌≡◌, take}
use Rattle.cbl_base.specs.Changes.{after_changes}
use Rattle.cbl_base.specs.declared.input.Input.TheVariants.{Set}
use Rattle.node_set.specs.Combining.{both, combined}
use Rattle.node_set.proofs.two_sets.TwoSetsNodeRule.apply.Given as goal

abbrev pub invariant-loop-change : goal.invariant-loop-change
invariant-loop-change l =
    (both l.self.first l.self.second ≡ after_changes (both l.fn.self.first l.fn.self.second) (take l.change-index l.changes))
    × (l.self.kept ≡ Set (combined l.self.combining l.self.first l.self.second))
    × (l.self.combining ≡ l.fn.self.combining)
