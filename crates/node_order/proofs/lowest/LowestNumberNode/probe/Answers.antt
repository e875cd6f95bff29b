use Rattle.std.proofs.Common.{◌∙◌, ℤ, Result, Ok, ap, sym, rules, w64}
use Rattle.std.specs.Prelude.{FitsSigned}
use Rattle.std.proofs.lemmas.Int.{to_z-of_z}
use Rattle.cbl_base.specs.declared.faults.RunFault.{RunFault}
use Rattle.node_order.proofs.LowestLemmas.{least_after, rising_keys}
use Rattle.node_order.proofs.lowest.LowestNumberNode.probe.Goals as goal

ok : ℤ → Result ℤ RunFault
ok x = Ok x

pub returns : goal.returns
unfolding ok
returns c =
    let fits : FitsSigned w64 c.unwrap_or.result = search rules in
    rw (to_z-of_z w64 c.unwrap_or.result fits)
    (least_after c.args.self.now.counts c.args.self.now.numbers.items c.args.changes.now c.in_ok-left.left c.lowest_with-least.result c.requires.settled (rising_keys _ c.in_ok-left.ensures.ordered) c.requires.changes c.in_ok-left.ensures.first c.lowest_with-least.ensures ∙ ap ok (sym c.unwrap_or.ensures))
