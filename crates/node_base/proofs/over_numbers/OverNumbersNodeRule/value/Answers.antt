use Rattle.std.proofs.Common.{sym, ◌∙◌}
use Rattle.cbl_base.proofs.InputLemmas.{numbers_of-as_inputs}
use Rattle.node_base.proofs.over_numbers.OverNumbersNodeRule.value.Goals as goal

pub returns-in-Ok : goal.returns-in-Ok
returns-in-Ok g c = rw numbers_of-as_inputs (sym c.requires.1 ∙ c.in-Ok.is)

pub returns-in-Err : goal.returns-in-Err
returns-in-Err g c = rw numbers_of-as_inputs (sym c.requires.1 ∙ c.in-Err.is)
