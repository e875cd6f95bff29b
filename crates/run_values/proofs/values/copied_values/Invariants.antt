use Rattle.std.proofs.Common.{◌≡◌, map, take}
use Rattle.run_values.specs.Views.{value_seen}
use Rattle.run_values.proofs.values.copied_values.Given as goal

abbrev pub invariant-loop-value : goal.invariant-loop-value
invariant-loop-value l = map value_seen l.copies.items ≡ map value_seen (take l.value-index l.values)
