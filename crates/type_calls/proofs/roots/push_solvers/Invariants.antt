use Rattle.std.proofs.Common.{◌≡◌, ◌++◌, drop}
use Rattle.type_scopes.specs.Names.{solvers_of}
use Rattle.type_calls.proofs.roots.push_solvers.Given as goal

abbrev pub invariant-loop-slot : goal.invariant-loop-slot
invariant-loop-slot l = l.roots.items ++ solvers_of l.scope l.checker.names (drop l.slot-index l.slots) ≡ l.fn.roots.items ++ solvers_of l.scope l.checker.names l.slots
