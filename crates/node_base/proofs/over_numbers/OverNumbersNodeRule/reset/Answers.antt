use Rattle.std.proofs.Common.{◌∙◌, ap}
use Rattle.std.proofs.lemmas.Bool.{and_parts}
use Rattle.cbl_base.specs.Inputs.{as_inputs}
use Rattle.cbl_base.proofs.InputLemmas.{as_inputs-numbers_of}
use Rattle.node_base.proofs.over_numbers.OverNumbersNodeRule.reset.Goals as goal

pub returns-clause-held : goal.returns-clause-held
returns-clause-held g c =
    ap as_inputs (c.in_ok-reset.ensures.numbers ∙ c.as_slice.ensures.value ∙ c.in_ok-numbers.ensures)
    ∙ as_inputs-numbers_of _ (and_parts _ _ c.requires).0
