-- What a clause reads of a sink over a writer of the system.
use Rattle.std.specs.Prelude.{ℕ}
use Rattle.cbl_io.specs.declared.real_sink.RealSink.{RealSink}

-- the writer that its bytes go to
abbrev pub writer_of : {W : Type 0} → RealSink W → W
writer_of sink = sink.writer

-- how often a write has failed
abbrev pub fault_count : {W : Type 0} → RealSink W → ℕ
fault_count sink = sink.faults
