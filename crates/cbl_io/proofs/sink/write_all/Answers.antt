-- A turn takes a further front of what is left.
use Rattle.std.proofs.Common.{◌++◌, take, arith}
use Rattle.cbl_io.proofs.AppendedLemmas.{Appends-append, take-drop-further}
use Rattle.cbl_io.proofs.sink.write_all.Goals as goal

pub loop-left-preserved : goal.loop-left-preserved
loop-left-preserved g c =
    let before = c.loop-left.invariant.taken in
    record {
      taken = (
        before.0 ++ take c.in_ok-taken.taken c.loop-left.left.now,
        take-drop-further c.args.bytes.now before.0 c.loop-left.left.now c.in_ok-taken.taken before.1,
        Appends-append _ _ _ _ _ before.2 c.in_ok-taken.ensures.ok,
      );
      faults = omega arith;
    }
