use Rattle.std.proofs.Common.{◌≡◌, ◌+◌}
use Rattle.std.specs.Vec.Iter.{into_iter_items, into_iter_len}
use Rattle.par_scan.specs.Stretches.{first_of_worker, AreScans, IsScanOf}
use Rattle.par_scan.proofs.scanning.merge_all.Given as goal

-- the parts of the workers before the next one are merged, and the others are left
abbrev pub invariant-loop-part : goal.invariant-loop-part
invariant-loop-part g l = record {
  count : l.next + into_iter_len l.part-iterator ≡ l.workers;
  merged : IsScanOf (g.P.Probe.candidate l.probe) l.want l.fuel 0 (first_of_worker l.candidates l.workers l.next) l.whole;
  left : AreScans (g.P.Probe.candidate l.probe) l.want l.fuel l.candidates l.workers l.next (into_iter_items l.part-iterator);
}
