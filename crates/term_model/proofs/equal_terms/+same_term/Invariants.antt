use Rattle.std.proofs.Common.{◌≡◌, true, map, take}
use Rattle.term_model.specs.Depth.{depth_of}
use Rattle.term_model.specs.SameTerms.{all_pass, same_term}
use Rattle.term_model.proofs.equal_terms.+same_term.Given as goal

abbrev pub invariant-loop-i : goal.invariant-loop-i
invariant-loop-i l = all_pass (map same_term (take l.i l.args.items)) (take l.i l.parts.args.now) ≡ true

abbrev pub decreases-same_term : goal.decreases-same_term
decreases-same_term l = depth_of l.term.now
