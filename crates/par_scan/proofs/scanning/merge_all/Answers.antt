use Rattle.std.proofs.Common.{◌≡◌, subst, ap, ◌∙◌, arith}
use Rattle.par_scan.specs.Stretches.{first_of_worker, IsScanOf}
use Rattle.par_scan.proofs.Firsts.{first_of_none}
use Rattle.par_scan.proofs.scanning.merge_all.Goals as goal

pub returns : goal.returns
returns g c =
    let none = c.in-None.ensures.steps.0 in
    let count = c.loop-part.invariant.count in
    let all : c.loop-part.next ≡ c.args.workers = omega (arith, none, count) in
    subst (λ n. IsScanOf (g.P.Probe.candidate c.args.probe.now) c.args.want c.args.fuel 0 n c.loop-part.whole) (ap (first_of_worker c.args.candidates c.args.workers) all ∙ first_of_none c.args.candidates c.args.workers c.requires.workers.0) c.loop-part.invariant.merged
