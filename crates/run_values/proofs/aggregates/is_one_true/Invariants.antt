use Rattle.std.proofs.Common.{◌≡◌, drop, map}
use Rattle.std.specs.List.{list_any}
use Rattle.comet_meaning.specs.Aggregates.{truths_of}
use Rattle.run_values.specs.Views.{element_seen}
use Rattle.run_values.proofs.aggregates.is_one_true.Given as goal

-- whether one is true is whether one that is left is
abbrev pub invariant-loop-element : goal.invariant-loop-element
invariant-loop-element l =
    list_any (λ b. b) (truths_of (map element_seen l.elements)) ≡ list_any (λ b. b) (truths_of (map element_seen (drop l.element-index l.elements)))
