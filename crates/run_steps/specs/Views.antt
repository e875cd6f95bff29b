-- The code's view of functions and of flows, as the meaning of programs has them. A rule of this project.
use Rattle.std.specs.Prelude.{List, map, Option, option_map}
use Rattle.std.specs.declared.boxed.Box.{Box}
use Rattle.std.specs.declared.alloc.Global.{Global}
use Rattle.checked_tree.specs.declared.expressions.Typed.{Typed}
use Rattle.checked_tree.specs.declared.expressions.Link.{Link}
use Rattle.checked_tree.specs.declared.expressions.Generator.{Generator}
use Rattle.checked_tree.specs.Shape.{Shape, seen, whole, wholes, rows, optional, shape_of_link, shape_of_generator}
use Rattle.comet_meaning.specs.Parts.{items}
use Rattle.checked_tree.specs.Tasks.{function_of}
use Rattle.comet_meaning.specs.Levels as meant
use Rattle.run_values.specs.Views.{value_seen}
use Rattle.run_steps.specs.declared.code.Code.{Code}
use Rattle.run_steps.specs.declared.code.Flow.{Flow}
use Rattle.run_steps.specs.declared.code.Flow.TheVariants.{Next, Returned}

abbrev pub code_seen : Code → meant.Code
code_seen c = record { functions = map function_of c.lists.value.functions.now; pure = c.lists.value.pure.now }

abbrev pub flow_seen : Flow → meant.Flow
flow_seen Next = meant.Next
flow_seen (Returned v) = meant.Returned (option_map value_seen v)

-- an expression, as a part of another one
abbrev pub part : Typed → Shape
part e = whole (seen e)

abbrev pub parts : List Typed → List Shape
parts es = map part es

-- expressions in a row
abbrev pub row : List Typed → List Shape
row es = items (wholes (map seen es))

-- operands of a chain behind the first
abbrev pub links_seen : List Link → List Shape
links_seen links = items (rows (map shape_of_link links))

-- generators
abbrev pub generators_seen : List Generator → List Shape
generators_seen gs = items (rows (map shape_of_generator gs))

-- a part that may be left out
abbrev pub part_or_none : Option (Box Typed Global) → Shape
part_or_none e = optional whole (option_map (λ x. seen x.value) e)
