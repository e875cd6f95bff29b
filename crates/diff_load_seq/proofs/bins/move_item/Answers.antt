use Rattle.std.proofs.Common.{arith, w64}
use Rattle.std.specs.Prelude.{FitsSigned}
use Rattle.std.proofs.lemmas.Int.{ints}
use Rattle.diff_load_seq.proofs.BinLoads.{raised_raisable}
use Rattle.diff_load_seq.proofs.bins.move_item.Goals as goal

pub raise_bin-requires-2-clause-room : goal.raise_bin-requires-2-clause-room
raise_bin-requires-2-clause-room c =
    let size : FitsSigned w64 c.args.size = c.ranges.size in
    rw (c.raise_bin.ensures.each)
    (raised_raisable c.args.bins.now.each.items _ _ _ _ c.requires.room
    (omega (arith, ints, c.from.ensures, size)) (omega (arith, ints, c.from.ensures, size))
    (omega (arith, ints, c.from-2.ensures, size)) (omega (arith, ints, c.from-2.ensures, size)))
