use Rattle.std.proofs.lemmas.Slice.Eq.{slice_eq-Decides}
use Rattle.std.proofs.lemmas.Bool.Decides.{Decides-int_eq}
use Rattle.store_turns.proofs.Differs.{same_from}
use Rattle.store_turns.proofs.outcome.same_set.Goals as goal

pub returns-clause-answer : goal.returns-clause-answer
returns-clause-answer c = rw (c.as_slice.ensures.members, c.as_slice-2.ensures.members) at (same_from c.eq.result c.as_slice.result.now c.as_slice-2.result.now (slice_eq-Decides Decides-int_eq c.as_slice.result.now c.as_slice-2.result.now c.eq.result c.eq.ensures))
