use Rattle.std.proofs.Common.{◌≡◌, ◌++◌, drop}
use Rattle.type_simples.specs.Simples.{others}
use Rattle.type_simples.proofs.simples.push_others.Given as goal

abbrev pub invariant-loop-slot : goal.invariant-loop-slot
invariant-loop-slot l = l.roots.items ++ others l.kept (drop l.slot-index l.slots) ≡ l.fn.roots.items ++ others l.kept l.slots
