use Rattle.std.proofs.Common.{arith}
use Rattle.std.proofs.lemmas.Int.{ints}
use Rattle.node_num.proofs.sum.Total.after.Goals as goal

pub returns-clause-value : goal.returns-clause-value
returns-clause-value c = omega (arith, ints, c.from.ensures, c.from-2.ensures, c.requires.low, c.requires.high)
