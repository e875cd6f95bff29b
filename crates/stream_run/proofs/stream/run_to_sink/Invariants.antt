-- The sink as it is lent.
use Rattle.stream_run.proofs.stream.run_to_sink.Given as goal

abbrev pub ghosts-run_lent : goal.ghosts-run_lent
ghosts-run_lent g a = record { lender = a.lent.sink.ghost_name; bytes = g.S.Sink.bytes a.lent.sink.now; faults = g.S.Sink.faults a.lent.sink.now }
