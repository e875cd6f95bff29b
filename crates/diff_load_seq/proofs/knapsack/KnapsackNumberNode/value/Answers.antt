use Rattle.std.proofs.Common.{◌∙◌, ap}
use Rattle.diff_load_seq.specs.Products.{above_capacity, products}
use Rattle.diff_load_seq.proofs.PartLemmas.{joined_kept}
use Rattle.diff_load_seq.proofs.ProductLemmas.{above_is}
use Rattle.diff_load_seq.proofs.knapsack.KnapsackNumberNode.value.Goals as goal

pub returns : goal.returns
returns c = c.above.ensures
    ∙ ap (λ load. above_capacity load c.args.self.now.capacity) (joined_kept c.args.self.now.load (products c.args.self.now.weights c.args.self.now.numbers.items) c.requires.1)
    ∙ above_is c.args.self.now.weights c.args.self.now.capacity c.args.self.now.numbers.items
