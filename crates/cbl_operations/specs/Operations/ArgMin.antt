-- `argMin(i in R) e` is the set of the keys at which `e` is least, all of them where several are. A rule
-- of this project.
use Rattle.std.specs.Prelude.{ℤ, List}
use Rattle.std.specs.Ordering.{int_eq}
use Rattle.cbl_base.specs.Sets.{set_of}
use Rattle.cbl_base.specs.NodeLaw.{Rule}
use Rattle.cbl_operations.specs.Operations.Least.{least_of}
use Rattle.cbl_operations.specs.SetForms.{keys_where, rule_of_keys}

abbrev pub keys_of_least : List ℤ → List ℤ → List ℤ
keys_of_least keys xs = set_of (keys_where (λ x. int_eq x (least_of xs)) keys xs)

abbrev pub arg_min : List ℤ → Rule
arg_min keys = rule_of_keys keys (keys_of_least keys)
