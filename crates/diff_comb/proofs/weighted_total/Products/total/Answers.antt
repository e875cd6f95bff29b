use Rattle.std.proofs.Common.{◌∙◌}
use Rattle.diff_comb.proofs.ProductLemmas.{total_fits, total_unfit}
use Rattle.diff_comb.proofs.weighted_total.Products.total.Goals as goal

pub returns-then-self-eq0 : goal.returns-then-self-eq0
returns-then-self-eq0 c members inputs = λ are. c.narrowed.ensures ∙ total_fits c.args.self members inputs are c.if-self-eq0.true

pub returns-else-self-eq0 : goal.returns-else-self-eq0
returns-else-self-eq0 c members inputs = λ are. total_unfit c.args.self members inputs are c.if-self-eq0.false
