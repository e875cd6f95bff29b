use Rattle.std.proofs.Common.{◌≡◌, ◌≤◌}
use Rattle.par_scan.specs.Stretches.{IsScanOf}
use Rattle.par_scan.proofs.stretch.scan_on.Given as goal

-- the part is that of all candidates up to here
abbrev pub invariant-loop-number : goal.invariant-loop-number
invariant-loop-number g l = record {
  begun : l.fn.part.first ≤ l.number;
  order : l.number ≤ l.end;
  first : l.part.first ≡ l.fn.part.first;
  scanned : IsScanOf (g.P.Probe.candidate l.probe) l.want l.fuel l.fn.part.first l.number l.part;
}
