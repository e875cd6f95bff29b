use Rattle.std.proofs.Common.{subst, arith}
use Rattle.ls_select.specs.Merging.{Merges}
use Rattle.par_scan.proofs.Scans.{begins, few, merged, room}
use Rattle.par_scan.proofs.scanning.merge_next.Goals as goal

pub merge-requires-clause-adjoin : goal.merge-requires-clause-adjoin
merge-requires-clause-adjoin g c none =
    let count = (room _ _ _ _ _ _ c.requires.whole none).1 in
    let first = begins _ _ _ _ _ _ c.requires.whole in
    omega (arith, count, first)

pub merge-requires-clause-counts : goal.merge-requires-clause-counts
merge-requires-clause-counts g c =
    let one = (few _ _ _ _ _ _ c.requires.whole).0 in
    let two = (few _ _ _ _ _ _ c.requires.later).0 in
    omega (arith, one, two, c.requires.order, c.requires.many)

pub merge-requires-clause-spare : goal.merge-requires-clause-spare
merge-requires-clause-spare g c =
    let one = (few _ _ _ _ _ _ c.requires.whole).1 in
    let two = (few _ _ _ _ _ _ c.requires.later).1 in
    omega (arith, one, two, c.requires.order, c.requires.many)

pub returns-in-Whole : goal.returns-in-Whole
returns-in-Whole g c = merged _ _ _ _ _ _ _ _ c.requires.whole c.requires.later c.requires.order (subst (Merges c.args.want c.args.fuel c.args.whole c.args.later) c.in-Whole.is c.merge.ensures)
