use Rattle.std.proofs.Common.{◌∙◌, ap}
use Rattle.diff_load_seq.specs.Parts.{joined}
use Rattle.diff_load_seq.specs.Levels.{excesses}
use Rattle.diff_load_seq.proofs.BinLoads.{bins_value}
use Rattle.diff_load_seq.proofs.multi_knapsack.MultiKnapsackNumberNode.value.Goals as goal

pub returns : goal.returns
returns c = c.total.ensures ∙ ap (λ bins. joined (excesses bins)) c.requires.1
    ∙ bins_value c.args.self.now.sizes c.args.self.now.low c.args.self.now.capacities c.args.self.now.numbers.items
