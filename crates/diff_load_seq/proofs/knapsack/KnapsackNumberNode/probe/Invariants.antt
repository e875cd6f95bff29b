use Rattle.std.proofs.Common.{take}
use Rattle.node_base.specs.NumberChanges.{after_number_changes}
use Rattle.diff_load_seq.specs.Parts.{IsSumOf}
use Rattle.diff_load_seq.specs.Products.{products}
use Rattle.diff_load_seq.proofs.knapsack.KnapsackNumberNode.probe.Given as goal

abbrev pub invariant-loop-change : goal.invariant-loop-change
invariant-loop-change l = IsSumOf l.load (products l.self.weights (after_number_changes l.self.numbers.items (take l.change-index l.changes)))
