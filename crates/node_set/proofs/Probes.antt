-- What a copy of a node answers after its changes is what the node would answer.
use Rattle.std.proofs.Common.{◌≡◌, List, Ok, ap, sym, ◌∙◌}
use Rattle.cbl_base.specs.NodeLaw.{Rule}
use Rattle.cbl_base.specs.declared.input.Input.{Input}

pub value_of_copy : (rule copied : Rule) (held after : List Input) (value : Input) → copied ≡ rule → held ≡ after → copied.value held ≡ Ok value → rule.value after ≡ Ok value
value_of_copy rule copied held after value same_rule same_held is =
    ap (λ r. r.value after) (sym same_rule) ∙ ap (λ xs. copied.value xs) (sym same_held) ∙ is
