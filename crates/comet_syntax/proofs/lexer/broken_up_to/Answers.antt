use Rattle.std.proofs.Common.{arith}
use Rattle.comet_syntax.proofs.Cuts.{no_break, one_break}
use Rattle.comet_syntax.proofs.lexer.broken_up_to.Goals as goal

pub returns-in-Ok-clause-none : goal.returns-in-Ok-clause-none
returns-in-Ok-clause-none c = λ valid broken. absurd (no_break c.in-Ok.ensures.cases.1 broken)

pub returns-else-valid-index-clause-none : goal.returns-else-valid-index-clause-none
returns-else-valid-index-clause-none c = λ valid broken. omega (arith, one_break c.in-Err.ensures.cases.1 broken, c.valid_up_to-valid.ensures, c.if-valid-index.false)
