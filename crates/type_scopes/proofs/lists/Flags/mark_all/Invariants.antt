use Rattle.std.proofs.Common.{◌≡◌, drop}
use Rattle.type_scopes.specs.Effects.{all_marked}
use Rattle.type_scopes.proofs.lists.Flags.mark_all.Given as goal

abbrev pub invariant-loop-slot : goal.invariant-loop-slot
invariant-loop-slot l = all_marked (drop l.slot-index l.slots) l.self ≡ all_marked l.slots l.fn.self
