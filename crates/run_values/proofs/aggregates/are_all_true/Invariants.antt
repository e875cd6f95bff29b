use Rattle.std.proofs.Common.{◌≡◌, drop, map}
use Rattle.std.specs.List.{list_all}
use Rattle.comet_meaning.specs.Aggregates.{truths_of}
use Rattle.run_values.specs.Views.{element_seen}
use Rattle.run_values.proofs.aggregates.are_all_true.Given as goal

-- whether all are true is whether all that are left are
abbrev pub invariant-loop-element : goal.invariant-loop-element
invariant-loop-element l =
    list_all (λ b. b) (truths_of (map element_seen l.elements)) ≡ list_all (λ b. b) (truths_of (map element_seen (drop l.element-index l.elements)))
