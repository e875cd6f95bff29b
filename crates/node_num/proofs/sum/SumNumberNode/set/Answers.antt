use Rattle.std.proofs.Common.{◌∙◌, sym, subst, rules, w64, ap, arith, ◌+ℤ◌, ◌-ℤ◌}
use Rattle.std.specs.Prelude.{FitsSigned}
use Rattle.std.proofs.lemmas.Int.{to_z-of_z}
use Rattle.node_base.proofs.ChangeLemmas.{number_within}
use Rattle.node_num.specs.Few.{IsSmall}
use Rattle.node_num.proofs.SmallTotals.{total_small, total_after, few_after}
use Rattle.node_num.proofs.sum.SumNumberNode.set.Goals as goal

pub after-self-requires : goal.after-self-requires
after-self-requires c = subst IsSmall (sym c.requires.settled.0) (total_small _ c.requires.settled.1)

pub index_mut-requires : goal.index_mut-requires
index_mut-requires c =
    let within = number_within c.args.self.now.numbers.items c.args.change c.requires.change in
    omega (arith, within, c.args.self.now.numbers.ok.0)

pub returns-clause-settled : goal.returns-clause-settled
returns-clause-settled c =
    let fits : FitsSigned w64 c.args.change.new = search rules in
    rw (to_z-of_z w64 c.args.change.new fits)
    (c.after-self.ensures.value ∙ ap (λ z. (z -ℤ c.args.change.old) +ℤ c.args.change.new) c.requires.settled.0 ∙ sym (total_after c.args.self.now.numbers.items c.args.change c.requires.change), few_after c.args.self.now.numbers.items c.args.change fits c.requires.settled.1)
