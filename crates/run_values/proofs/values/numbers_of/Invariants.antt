use Rattle.std.proofs.Common.{◌≡◌, map, take}
use Rattle.comet_meaning.specs.Values.{number_of}
use Rattle.run_values.specs.Views.{value_seen}
use Rattle.run_values.proofs.values.numbers_of.Given as goal

abbrev pub invariant-loop-value : goal.invariant-loop-value
invariant-loop-value l = l.numbers.items ≡ map number_of (map value_seen (take l.value-index l.values))
