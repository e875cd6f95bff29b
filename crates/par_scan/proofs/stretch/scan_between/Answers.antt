use Rattle.std.proofs.Common.{ap, arith}
use Rattle.ls_select.specs.declared.part.Part.{Part}
use Rattle.par_scan.proofs.stretch.scan_between.Goals as goal

pub scan_on-requires-clause-begun : goal.scan_on-requires-clause-begun
scan_on-requires-clause-begun g c =
    let first = ap (λ (p : Part). p.first) (c.new-part.ensures c.args.want) in
    omega (arith, first)
