-- What parts of simple statements stand for.
use Rattle.std.specs.Prelude.{List, map}
use Rattle.std.specs.declared.alloc.Global.{Global}
use Rattle.std.specs.declared.vec.Vec.{Vec}
use Rattle.checked_tree.specs.declared.statements.Printed.{Printed}
use Rattle.checked_tree.specs.Actions.{Shown, printed_of, deed_of}
use Rattle.type_simples.specs.declared.simples.Acted.{Acted}
use Rattle.type_simples.specs.Simples as simples

-- a statement, at its place
abbrev pub acted_of : Acted → simples.Acted
acted_of a = record { place = a.place; deed = deed_of a.action }

-- what `cout` prints
abbrev pub printed_list : Vec Printed Global → List Shown
printed_list v = map printed_of v.items
