use Rattle.std.proofs.Common.{◌≡◌, ◌+◌, IfOk, slice_index_or, subst, arith}
use Rattle.par_scan.specs.Stretches.{first_of_worker, IsScanOf}
use Rattle.par_scan.proofs.Scans.{are_scans}
use Rattle.par_scan.proofs.scanning.scan.Goals as goal

pub merge_all-requires-clause-parts : goal.merge_all-requires-clause-parts
merge_all-requires-clause-parts g c =
    let len = c.in_ok-parts.parts.ok.0 in
    let many = c.in_ok-parts.ensures.len in
    let each = c.in_ok-parts.ensures.each in
    are_scans (g.P.Probe.candidate c.args.probe.now) c.args.want c.args.fuel c.args.candidates c.args.workers 0 c.in_ok-parts.parts.items (λ i d lt.
    let here : i ≡ 0 + i = omega arith in
    subst (λ k. IfOk (slice_index_or c.in_ok-parts.parts.items i d) (λ q. IsScanOf (g.P.Probe.candidate c.args.probe.now) c.args.want c.args.fuel (first_of_worker c.args.candidates c.args.workers k) (first_of_worker c.args.candidates c.args.workers (k + 1)) q)) here (each i d (omega (arith, lt, len, many))).1.met)
