-- What is kept is a front of the bytes, and writing changes nothing of what was taken.
use Rattle.std.proofs.Common.{◌∙◌}
use Rattle.stream_run.proofs.Fronts.{nothing_begun, nothing_front, piece_front}
use Rattle.stream_run.proofs.buffered.Buffered.take_some.Goals as goal

pub returns-in_err-keep-clause-begun : goal.returns-in_err-keep-clause-begun
returns-in_err-keep-clause-begun g c = nothing_begun _ _ c.in_err-keep.ensures.err

pub returns-in_err-keep-clause-front : goal.returns-in_err-keep-clause-front
returns-in_err-keep-clause-front g c = nothing_front _ _ _ c.in_err-keep.ensures.err

pub returns-in_err-flush_full-clause-begun : goal.returns-in_err-flush_full-clause-begun
returns-in_err-flush_full-clause-begun g c = (_, c.in_err-flush_full.ensures.taken ∙ c.in_ok-keep.ensures.ok)

pub returns-in_err-flush_full-clause-front : goal.returns-in_err-flush_full-clause-front
returns-in_err-flush_full-clause-front g c = piece_front _ _ _ _ (c.in_err-flush_full.ensures.taken ∙ c.in_ok-keep.ensures.ok)

pub returns-clause-begun : goal.returns-clause-begun
returns-clause-begun g c = (_, c.in_ok-flush_full.ensures.taken ∙ c.in_ok-keep.ensures.ok)

pub returns-clause-front : goal.returns-clause-front
returns-clause-front g c = piece_front _ _ _ _ (c.in_ok-flush_full.ensures.taken ∙ c.in_ok-keep.ensures.ok)
