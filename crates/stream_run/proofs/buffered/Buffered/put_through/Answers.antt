-- A turn takes a further front of what is left.
use Rattle.std.proofs.Common.{◌++◌, take, arith}
use Rattle.stream_run.proofs.Fronts.{begun_further, front_further, left_further, taken_further}
use Rattle.stream_run.proofs.buffered.Buffered.put_through.Goals as goal

pub loop-left-preserved : goal.loop-left-preserved
loop-left-preserved g c =
    let before = c.loop-left.invariant.taken in
    record {
      taken = (
        before.0 ++ take c.in_ok-taken.taken c.loop-left.left.now,
        left_further c.args.bytes.now before.0 c.loop-left.left.now c.in_ok-taken.taken before.1,
        taken_further _ _ _ _ _ c.in_ok-taken.ensures.ok before.2,
      );
      failures = omega arith;
    }

pub returns-in_err-taken-clause-begun : goal.returns-in_err-taken-clause-begun
returns-in_err-taken-clause-begun g c = begun_further _ _ _ _ c.loop-left.invariant.taken.2 c.in_err-taken.ensures.begun

pub returns-in_err-taken-clause-front : goal.returns-in_err-taken-clause-front
returns-in_err-taken-clause-front g c = front_further _ _ _ _ _ _ c.loop-left.invariant.taken.2 c.loop-left.invariant.taken.1 c.in_err-taken.ensures.front
