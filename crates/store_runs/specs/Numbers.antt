-- Rules of numbers alone.
use Rattle.std.specs.Prelude.{◌≡◌, true, List, Ok, IsTrue}
use Rattle.cbl_base.specs.Inputs.{InputKind, number_kind, kind_of, all_numbers}
use Rattle.cbl_base.specs.NodeLaw.{Rule}
use Rattle.cbl_base.specs.declared.input.Input.{Input}

-- it takes numbers, however many, and its values are numbers
pub record IsOfNumbers (rule : Rule) : Type 0 where
  pub taken : (kinds : List InputKind) → all_numbers kinds ≡ true → IsTrue (rule.takes kinds)
  pub given : (xs : List Input) (x : Input) → rule.value xs ≡ Ok x → kind_of x ≡ number_kind
