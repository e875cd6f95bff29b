use Rattle.std.proofs.Common.{◌<◌, length, subst, arith, w64}
use Rattle.std.specs.Prelude.{FitsSigned}
use Rattle.std.proofs.lemmas.Int.{ints}
use Rattle.diff_load_seq.specs.LevelsOver.{shown}
use Rattle.diff_load_seq.proofs.BinLoads.{raised_raisable}
use Rattle.diff_load_seq.proofs.OverLemmas.{length_shown}
use Rattle.diff_load_seq.proofs.bins.move_item_over.Goals as goal

pub raise_bin_over-requires-2-clause-room : goal.raise_bin_over-requires-2-clause-room
raise_bin_over-requires-2-clause-room c = λ k h.
    let size : FitsSigned w64 c.args.size = c.ranges.size in
    let inside : k < length (shown c.args.bins.now.each.items c.raise_bin_over.new.over) = omega (arith, h, length_shown c.args.bins.now.each.items c.raise_bin_over.new.over) in
    (rw (c.in_ok-raise_bin_over.ensures.shown)
    (raised_raisable (shown c.args.bins.now.each.items c.args.over.now) _ _ _ _ c.requires.room
    (omega (arith, ints, c.from.ensures, size)) (omega (arith, ints, c.from.ensures, size))
    (omega (arith, ints, c.from-2.ensures, size)) (omega (arith, ints, c.from-2.ensures, size)) k (subst (λ levels. k < length levels) c.in_ok-raise_bin_over.ensures.shown inside)))
