use Rattle.diff_load_seq.specs.Parts.{IsSumOf}
use Rattle.diff_load_seq.proofs.ProductLemmas.{first_products}
use Rattle.diff_load_seq.proofs.knapsack.load_of.Given as goal

abbrev pub invariant-loop-k : goal.invariant-loop-k
invariant-loop-k l = IsSumOf l.load (first_products l.weights l.numbers l.k)
