-- `setof(i in R) c` is the set of the keys at which `c` is 1. A rule of this project.
use Rattle.std.specs.Prelude.{ℤ, List}
use Rattle.cbl_base.specs.Sets.{set_of}
use Rattle.cbl_base.specs.NodeLaw.{Rule}
use Rattle.cbl_operations.specs.Truth.{is_one}
use Rattle.cbl_operations.specs.SetForms.{keys_where, rule_of_keys}

abbrev pub keys_of_ones : List ℤ → List ℤ → List ℤ
keys_of_ones keys xs = set_of (keys_where is_one keys xs)

abbrev pub set_of_ones : List ℤ → Rule
set_of_ones keys = rule_of_keys keys (keys_of_ones keys)
