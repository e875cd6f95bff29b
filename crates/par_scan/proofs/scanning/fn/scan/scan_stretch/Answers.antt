use Rattle.std.proofs.Common.{arith}
use Rattle.par_scan.proofs.Firsts.{first_rises}
use Rattle.par_scan.proofs.scanning.fn.scan.scan_stretch.Goals as goal

pub scan_between-requires : goal.scan_between-requires
scan_between-requires g c =
    let from = c.first_of_worker-from.ensures.first in
    let end = c.first_of_worker-end.ensures.first in
    let rises = first_rises c.captures.candidates c.captures.workers c.args.worker (omega (arith, c.requires.2)) in
    record {
      order = omega (arith, from, end, rises);
      many = omega (arith, c.first_of_worker-end.ensures.most, c.requires.0);
      fuel = c.requires.1;
    }
