-- What parts of the checker stand for.
use Rattle.std.specs.Prelude.{map, List}
use Rattle.std.specs.declared.alloc.Global.{Global}
use Rattle.std.specs.declared.vec.Vec.{Vec}
use Rattle.checked_tree.specs.declared.expressions.Typed.{Typed}
use Rattle.checked_tree.specs.declared.expressions.Generator.{Generator}
use Rattle.type_expressions.specs.declared.expressions.ChainFront.{ChainFront}
use Rattle.checked_tree.specs.Shape.{Shape, Seen, seen, shape_of_link, shape_of_generator}
use Rattle.type_rules.specs.declared.kinds.Note.{Note}
use Rattle.type_expressions.specs.Expressions.{Front}

-- expressions, as the checker has them
abbrev pub values_of : Vec Typed Global → List Seen
values_of v = map seen v.items

-- generators, as the checker has them
abbrev pub generators_of : Vec Generator Global → List Shape
generators_of v = map shape_of_generator v.items

-- a chain so far, as the checker has it
abbrev pub front_of : ChainFront → Front
front_of f = record { note = f.note; links = map shape_of_link f.links.items }

-- a chain so far, of these parts
abbrev pub front_with : Note → List Shape → Front
front_with n ls = record { note = n; links = ls }
