use Rattle.std.proofs.Common.{◌≡◌, None, map, take}
use Rattle.std.specs.List.{find, list_any}
use Rattle.term_model.specs.SameTerms.{same_term}
use Rattle.model_values.proofs.least_failure.first_among.Given as goal

abbrev pub invariant-loop-found : goal.invariant-loop-found
invariant-loop-found l = find (λ t. list_any (same_term t) (map (λ f. f.term.now) l.others)) (map (λ f. f.term.now) (take l.found-index l.failing)) ≡ None
