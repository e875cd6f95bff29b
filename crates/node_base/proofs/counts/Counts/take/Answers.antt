use Rattle.std.proofs.Common.{w64, arith, sym, ◌≡◌, length}
use Rattle.std.specs.Prelude.{None}
use Rattle.std.proofs.lemmas.Int.{to_z-of_z}
use Rattle.node_base.specs.KeptCounts.{times_kept, place_in_window}
use Rattle.node_base.proofs.TallyLemmas.{counted_off}
use Rattle.node_base.proofs.counts.Counts.take.Goals as goal

pub take-requires : goal.take-requires
take-requires c =
    let s = c.args.self.now in
    let off : None ≡ place_in_window s.low (length s.window.items) c.args.number = simp (to_z-of_z w64 c.args.number c.ranges.number) at c.in-None.ensures.place in
    let is = counted_off s.low s.window.items (times_kept s.outside) c.args.number (sym off) in
    rw (to_z-of_z w64 c.args.number c.ranges.number) (omega (arith, is, c.requires))
