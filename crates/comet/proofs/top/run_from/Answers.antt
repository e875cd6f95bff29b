-- The bytes are a front of the meaning's in any case.
use Rattle.comet.proofs.Ending.{streams_front}
use Rattle.comet.proofs.top.run_from.Goals as goal

pub returns-clause-front : goal.returns-clause-front
returns-clause-front g c = streams_front _ _ _ _ c.run_to_sink.ensures.meant
