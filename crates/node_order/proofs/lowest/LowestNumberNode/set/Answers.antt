use Rattle.std.proofs.Common.{arith, rules, w64}
use Rattle.std.specs.Prelude.{FitsSigned}
use Rattle.std.proofs.lemmas.Int.{to_z-of_z}
use Rattle.node_base.proofs.ChangeLemmas.{number_within}
use Rattle.node_order.proofs.LowestLemmas.{old_counted, counts_turn}
use Rattle.node_order.proofs.lowest.LowestNumberNode.set.Goals as goal

pub take-requires : goal.take-requires
take-requires c =
    let change = c.args.change in
    let fits_old : FitsSigned w64 change.old = search rules in
    let fits_new : FitsSigned w64 change.new = search rules in
    rw (to_z-of_z w64 change.old fits_old)
    (old_counted c.args.self.now.counts c.add.new.self c.args.self.now.numbers.items change c.requires.settled c.requires.change (simp (to_z-of_z w64 change.new fits_new) at c.in_ok-add.ensures.ok))

pub index_mut-requires : goal.index_mut-requires
index_mut-requires c =
    let within = number_within c.args.self.now.numbers.items c.args.change c.requires.change in
    omega (arith, within, c.args.self.now.numbers.ok.0)

pub returns-clause-settled : goal.returns-clause-settled
returns-clause-settled c =
    let change = c.args.change in
    let fits_old : FitsSigned w64 change.old = search rules in
    let fits_new : FitsSigned w64 change.new = search rules in
    rw (to_z-of_z w64 change.new fits_new)
    (counts_turn c.args.self.now.counts c.add.new.self c.take.new.self c.args.self.now.numbers.items change c.requires.settled c.requires.change (simp (to_z-of_z w64 change.new fits_new) at c.in_ok-add.ensures.ok) (simp (to_z-of_z w64 change.old fits_old) at c.take.ensures))
