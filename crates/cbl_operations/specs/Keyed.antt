-- The operations on keys that each have a number, one line each: the set of keys that each gives, and its number, in
-- order of declaration. A rule of this project.
use Rattle.std.specs.Prelude.{ℕ, ℤ, List}
use Rattle.cbl_base.specs.NodeLaw.{Rule}
use Rattle.cbl_operations.specs.Operations.ArgMax.{keys_of_greatest}
use Rattle.cbl_operations.specs.Operations.ArgMin.{keys_of_least}
use Rattle.cbl_operations.specs.Operations.SetOf.{keys_of_ones}
use Rattle.cbl_operations.specs.SetForms.{rule_of_keys}
use Rattle.cbl_operations.specs.declared.keyed.KeyedOp.{KeyedOp}
use Rattle.cbl_operations.specs.declared.keyed.KeyedOp.TheVariants.{ArgMin, ArgMax, SetOf}

abbrev pub keyed_value : KeyedOp → List ℤ → List ℤ → List ℤ
keyed_value ArgMin = keys_of_least
keyed_value ArgMax = keys_of_greatest
keyed_value SetOf = keys_of_ones

abbrev pub rule_of_keyed : KeyedOp → List ℤ → Rule
rule_of_keyed op keys = rule_of_keys keys (keyed_value op keys)

abbrev pub keyed_number : KeyedOp → ℕ
keyed_number ArgMin = 0
keyed_number ArgMax = 1
keyed_number SetOf = 2
