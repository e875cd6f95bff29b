use Rattle.std.proofs.Common.{◌≡◌, ◌++◌, drop}
use Rattle.std.specs.Prelude.{map}
use Rattle.checked_tree.specs.Shape.{seen}
use Rattle.type_calls.specs.Roots.{written_roots}
use Rattle.type_calls.proofs.roots.written_roots.Given as goal

abbrev pub invariant-loop-value : goal.invariant-loop-value
invariant-loop-value l = (l.index ≡ l.value-index)
    × (l.roots.items ++ written_roots l.value-index l.flags (map seen (drop l.value-index l.values)) ≡ written_roots 0 l.flags (map seen l.values))
