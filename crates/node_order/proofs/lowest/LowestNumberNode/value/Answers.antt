use Rattle.std.proofs.Common.{◌∙◌, ℤ, [], Result, Ok, ap, sym, rules, refl, w64}
use Rattle.std.specs.Prelude.{FitsSigned}
use Rattle.std.proofs.lemmas.Int.{to_z-of_z}
use Rattle.cbl_base.specs.declared.faults.RunFault.{RunFault}
use Rattle.node_order.proofs.LowestLemmas.{least_after, rising_keys}
use Rattle.node_order.proofs.lowest.LowestNumberNode.value.Goals as goal

ok : ℤ → Result ℤ RunFault
ok x = Ok x

pub returns : goal.returns
unfolding ok
returns c =
    let fits : FitsSigned w64 c.unwrap_or.result = search rules in
    rw (to_z-of_z w64 c.unwrap_or.result fits)
    (sym (least_after c.args.self.now.counts c.args.self.now.numbers.items [] c.first_left_by_few.result c.first_left_by_few.result c.requires (rising_keys _ c.first_left_by_few.ensures.ordered) tt c.first_left_by_few.ensures.first refl ∙ ap ok (sym c.unwrap_or.ensures)))
