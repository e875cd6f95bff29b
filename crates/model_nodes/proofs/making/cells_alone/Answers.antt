use Rattle.std.proofs.Common.{◌≡◌, ◌≤◌, length, map, subst, sym, arith}
use Rattle.model_nodes.specs.Making.{AreMade}
use Rattle.model_nodes.proofs.MadeSteps.{cells_made}
use Rattle.model_nodes.proofs.making.cells_alone.Goals as goal

pub returns-clause-made : goal.returns-clause-made
returns-clause-made g c = λ about are.
    let few : length c.args.lists.items ≤ 4294967295 = omega arith in
    let placed : length c.in_ok-places.places.items ≡ length c.args.lists.items = omega (arith, c.in_ok-places.ensures.len) in
    subst (λ ns. AreMade about (map g.N.NodeRule.rule ns) c.args.lists.items c.in_ok-places.places.items) (sym c.new.ensures.items)
    (cells_made about c.args.lists.items c.in_ok-places.places.items few placed are)
