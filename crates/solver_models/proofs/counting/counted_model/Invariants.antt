use Rattle.std.proofs.Common.{take}
use Rattle.term_count.specs.Counting.{Counts}
use Rattle.term_model.specs.Subterms.{once, subterms_posted}
use Rattle.solver_models.proofs.counting.counted_model.Given as goal

abbrev pub invariant-loop-turn : goal.invariant-loop-turn
invariant-loop-turn l = Counts l.counted (once (subterms_posted l.model (take l.turn l.model.posted.items)))
