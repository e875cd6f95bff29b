use Rattle.std.proofs.Common.{◌∙◌, ap, map, sym, subst}
use Rattle.node_base.specs.NumberChanges.{IsNumberChange, after_number_change}
use Rattle.node_order.specs.Mirror.{mirrored}
use Rattle.node_order.proofs.MirrorLemmas.{change_mirrored, after_one_mirrored, later_long}
use Rattle.node_order.proofs.greatest.GreatestNumberNode.set.Goals as goal

pub set-requires-clause-change : goal.set-requires-clause-change
set-requires-clause-change c =
    subst (λ d. IsNumberChange c.args.self.now.lowest.numbers.items d) (sym c.mirrored_change.ensures) (change_mirrored c.args.self.now.lowest.numbers.items c.args.change c.requires.change)

pub returns-clause-settled : goal.returns-clause-settled
returns-clause-settled c =
    (c.in_ok-set.ensures.settled, later_long c.args.self.now.lowest.numbers.items c.set.new.self.numbers.items c.mirrored_change.result c.requires.settled.1 c.in_ok-set.ensures.numbers)

pub returns-clause-numbers : goal.returns-clause-numbers
returns-clause-numbers c =
    ap (map mirrored) (c.in_ok-set.ensures.numbers ∙ ap (after_number_change c.args.self.now.lowest.numbers.items) c.mirrored_change.ensures) ∙ after_one_mirrored c.args.self.now.lowest.numbers.items c.args.change
