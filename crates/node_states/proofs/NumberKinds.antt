-- Inputs are all numbers where each of them is one.
use Rattle.std.proofs.Common.{◌≡◌, List, [], ◌∷◌, refl}
use Rattle.std.specs.List.{list_all}
use Rattle.cbl_base.specs.Inputs.{all_numbers, kinds_of}
use Rattle.cbl_base.specs.declared.input.Input.{Input}
use Rattle.cbl_base.specs.declared.input.Input.TheVariants.{Int, Set}
use Rattle.node_states.specs.NumberInput.{is_number}

pub all_numbers_of : (inputs : List Input) → all_numbers (kinds_of inputs) ≡ list_all is_number inputs
all_numbers_of [] = refl
all_numbers_of (Int x ∷ inputs) = all_numbers_of inputs
all_numbers_of (Set s ∷ inputs) = refl
