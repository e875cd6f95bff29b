use Rattle.std.proofs.Common.{◌≡◌, take}
use Rattle.node_base.specs.NumberChanges.{after_number_changes}
use Rattle.diff_load_seq.specs.LevelsOver.{shown, IsKeptOver}
use Rattle.diff_load_seq.specs.Bins.{bins_of}
use Rattle.diff_load_seq.proofs.multi_knapsack.MultiKnapsackNumberNode.probe.Given as goal

abbrev pub invariant-loop-change : goal.invariant-loop-change
invariant-loop-change l = record {
  shown : shown l.self.bins.each.items l.over ≡ bins_of l.self.sizes l.self.low l.self.capacities (after_number_changes l.self.numbers.items (take l.change-index l.changes));
  kept : IsKeptOver l.self.bins.each.items l.over;
}
