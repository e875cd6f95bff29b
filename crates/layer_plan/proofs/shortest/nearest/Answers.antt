use Rattle.std.proofs.Common.{length, get_or, subst, ap, arith}
use Rattle.layer_plan.specs.Nearness.{ComesFirst}
use Rattle.layer_plan.proofs.Lists.{place_of}
use Rattle.layer_plan.proofs.shortest.nearest.Goals as goal

pub returns-clause-first : goal.returns-clause-first
returns-clause-first c = λ w dep.
    let at = place_of c.args.deps.now c.args.item w dep in
    let in_list = at.1 in
    let size = ap length c.list_of-place-end.ensures in
    subst (λ y. ComesFirst (λ v. get_or c.args.near.now v 0) c.loop-place.best y) at.2 (c.loop-place.invariant.2 at.0 (omega arith))
