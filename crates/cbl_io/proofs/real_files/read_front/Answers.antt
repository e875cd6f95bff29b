-- The reader stops at the limit, and no list that is held is longer than a limit that is cut short.
use Rattle.std.proofs.Common.{arith}
use Rattle.cbl_io.proofs.FrontLemmas.{front_at_limit_known}
use Rattle.cbl_io.proofs.real_files.read_front.Goals as goal

pub returns-clause-front : goal.returns-clause-front
returns-clause-front g c =
    front_at_limit_known (g.R.Read.remaining c.args.reader) c.new-bytes.result.items c.read_to_end.new.buf.items c.truncate.new.self.items c.saturating_add-limit.result c.args.most
    (omega arith) (omega arith) c.new-bytes.ensures.items c.truncate.ensures.items
    (rw (← c.take.ensures.limit, ← c.take.ensures.inner) c.in_ok-read_to_end.ensures.bytes)
