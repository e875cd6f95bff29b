-- The bytes of a run that streamed as its program means are a front of its meaning's.
use Rattle.std.proofs.Common.{◌≡◌, ℕ, List, Option}
use Rattle.cbl_io.specs.Appended.{AppendsFront}
use Rattle.comet_meaning.specs.Program.{End, Meant}
use Rattle.stmt_run.specs.declared.execution.RunEnd.{RunEnd}
use Rattle.stmt_run.specs.declared.execution.RunEnd.TheVariants as ends
use Rattle.stream_run.specs.Streamed.{Gets, StreamsAs}
use Rattle.comet.proofs.Pieces.{whole_front}

all_got : (end : End) (old new : Option (List ℕ)) (m : Meant) → Gets end old new m → AppendsFront old new m.printed
all_got end old new m (is, appends) = whole_front old new m.printed appends

pub streams_front : (end : RunEnd) (old new : Option (List ℕ)) (m : Meant) → StreamsAs end old new m → AppendsFront old new m.printed
streams_front ends.Done old new m streams = all_got _ old new m streams
streams_front (ends.Cyclic place names) old new m streams = all_got _ old new m streams
streams_front (ends.Run place fault) old new m streams = all_got _ old new m streams
streams_front (ends.Spent place) old new m streams = all_got _ old new m streams
streams_front ends.NoMemory old new m streams = streams
streams_front ends.Write old new m streams = streams
