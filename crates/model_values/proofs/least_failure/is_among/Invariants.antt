use Rattle.std.proofs.Common.{◌≡◌, false, map, take}
use Rattle.std.specs.List.{list_any}
use Rattle.term_model.specs.SameTerms.{same_term}
use Rattle.model_values.proofs.least_failure.is_among.Given as goal

abbrev pub invariant-loop-other : goal.invariant-loop-other
invariant-loop-other l = list_any (same_term l.term) (map (λ f. f.term.now) (take l.other-index l.others)) ≡ false
