use Rattle.std.proofs.Common.{◌≡◌, length}
use Rattle.std.specs.Prelude.{take}
use Rattle.type_scopes.specs.Index.{IsIndexed, bindings_of}
use Rattle.type_scopes.proofs.names.Names.close.Given as goal

abbrev pub invariant-loop-self : goal.invariant-loop-self
invariant-loop-self l = IsIndexed l.self-inside.entries.items l.self-inside.latest
    × (take l.count (bindings_of l.self-inside.entries.items) ≡ take l.count (bindings_of l.initial.self-inside.entries.items))

abbrev pub decreases-loop-self : goal.decreases-loop-self
decreases-loop-self l = length l.self-inside.entries.items
