use Rattle.std.proofs.Common.{◌<◌, length, subst, arith}
use Rattle.layer_plan.proofs.Lists.{place_of, depends_in}
use Rattle.base_tests.proofs.layers.are_items.Goals as goal

pub returns : goal.returns
returns c = λ item next dep.
    let deps = c.args.deps.now in
    let at = place_of deps item next dep in
    let within : item < length deps = depends_in deps item next dep in
    subst (λ y. y < length deps) at.2 (c.loop-item.invariant item at.0 (omega arith) at.1)
