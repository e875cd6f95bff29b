-- The set of the keys at which the least, or the greatest, of some numbers stands. A number is turned to
-- its mirrored one where the greatest is meant, so that it is the least that is looked for. A rule of
-- this project.
use Rattle.std.specs.Prelude.{ℤ, List}
use Rattle.std.specs.Ordering.{int_eq}
use Rattle.cbl_base.specs.Sets.{set_of}
use Rattle.cbl_operations.specs.Operations.Greatest.{greatest_of}
use Rattle.cbl_operations.specs.Operations.Least.{least_of}
use Rattle.cbl_operations.specs.SetForms.{keys_where}
use Rattle.node_base.specs.declared.number_change.NumberChange.{NumberChange}
use Rattle.node_order.specs.Mirror.{mirrored}
use Rattle.node_order.specs.declared.arg_extreme.Extreme.{Extreme}
use Rattle.node_order.specs.declared.arg_extreme.Extreme.TheVariants.{Least, Greatest}

-- the keys at which the least stands
abbrev pub least_keys : List ℤ → List ℤ → List ℤ
least_keys keys xs = set_of (keys_where (λ x. int_eq x (least_of xs)) keys xs)

-- those at which the least stands, or the greatest
abbrev pub extreme_keys : Extreme → List ℤ → List ℤ → List ℤ
extreme_keys Least keys xs = least_keys keys xs
extreme_keys Greatest keys xs = set_of (keys_where (λ x. int_eq x (greatest_of xs)) keys xs)

-- the number as it is kept, and the change of it
abbrev pub turned : Extreme → ℤ → ℤ
turned Least x = x
turned Greatest x = mirrored x

abbrev pub turned_change : Extreme → NumberChange → NumberChange
turned_change extreme c = record { place = c.place; old = turned extreme c.old; new = turned extreme c.new }
