use Rattle.std.proofs.Common.{◌∙◌, ◌<◌, ap, map, length, arith}
use Rattle.std.proofs.lemmas.Bool.Decides.{nat_tests}
use Rattle.node_order.specs.Mirror.{mirrored}
use Rattle.node_order.proofs.MirrorLemmas.{longer, map_twice}
use Rattle.node_order.proofs.greatest.GreatestNumberNode.reset.Goals as goal

pub returns-clause-settled : goal.returns-clause-settled
returns-clause-settled c =
    let takes = c.requires in
    let some : 0 < length c.args.numbers.now = grind (arith, nat_tests, takes) in
    (c.in_ok-reset.ensures.settled, longer c.args.numbers.now c.reset.new.self.numbers.items some (c.in_ok-reset.ensures.numbers ∙ c.deref.ensures.value ∙ c.in_ok-numbers.ensures))

pub returns-clause-numbers : goal.returns-clause-numbers
returns-clause-numbers c =
    ap (map mirrored) (c.in_ok-reset.ensures.numbers ∙ c.deref.ensures.value ∙ c.in_ok-numbers.ensures) ∙ map_twice c.args.numbers.now
