use Rattle.std.proofs.Common.{◌≡◌, map, take}
use Rattle.comet_meaning.specs.Aggregates.{keys_of}
use Rattle.run_values.specs.Views.{element_seen}
use Rattle.run_values.proofs.aggregates.keys_in.Given as goal

abbrev pub invariant-loop-element : goal.invariant-loop-element
invariant-loop-element l = l.keys.items ≡ keys_of (map element_seen (take l.element-index l.elements))
