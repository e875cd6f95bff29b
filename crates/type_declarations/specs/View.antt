-- What parts of declarations stand for.
use Rattle.std.specs.Prelude.{List, map, option_map}
use Rattle.std.specs.declared.alloc.Global.{Global}
use Rattle.std.specs.declared.vec.Vec.{Vec}
use Rattle.checked_tree.specs.declared.statements.Dimension.{Dimension}
use Rattle.checked_tree.specs.Shape.{seen}
use Rattle.checked_tree.specs.Actions.{Sized, dimension_of, start_of}
use Rattle.type_expressions.specs.Expressions.{judge}
use Rattle.type_declarations.specs.declared.parts.Source.{Source}
use Rattle.type_declarations.specs.declared.parts.Source.TheVariants as sources
use Rattle.type_declarations.specs.declared.parts.Ranges.{Ranges}
use Rattle.type_declarations.specs.declared.parts.Cells.{Cells}
use Rattle.type_declarations.specs.declared.objects.Handing.{Handing}
use Rattle.type_declarations.specs.Parts as parts
use Rattle.type_declarations.specs.Objects as objects

-- what is written of first values, as its judgement
abbrev pub source_of : Source → parts.Starting
source_of sources.Nothing = parts.nothing
source_of (sources.Each e) = parts.each_cell (judge e.now)
source_of (sources.Define e) = parts.defined (judge e.now)

-- the ranges of one dimension or two
abbrev pub ranges_of : Ranges → parts.Ranged
ranges_of r = record { first = seen r.first; second = option_map seen r.second }

-- dimensions with the cells of their names
abbrev pub sizes_of : Vec Dimension Global → List Sized
sizes_of v = map dimension_of v.items

-- an array's dimensions and first values
abbrev pub cells_of : Cells → parts.Celled
cells_of c = record { sizes = map dimension_of c.sizes.items; start = option_map start_of c.start }

-- arguments, and the variables that they name as terms
abbrev pub handing_of : Handing → objects.Handed
handing_of h = record { arguments = map seen h.arguments.items; terms = h.terms.items }
