use Rattle.std.proofs.Common.{w64, rules, arith}
use Rattle.std.specs.Prelude.{FitsSigned}
use Rattle.std.proofs.lemmas.Int.{to_z-of_z}
use Rattle.node_base.proofs.ChangeLemmas.{number_within}
use Rattle.node_num.proofs.TruthCounts.{old_counted, truths_after_change}
use Rattle.node_num.proofs.junction.JunctionNumberNode.set.Goals as goal

pub truths_after-self-requires-clause-old : goal.truths_after-self-requires-clause-old
truths_after-self-requires-clause-old c =
    omega (arith, c.requires.settled, old_counted c.args.self.now.numbers.items c.args.change c.requires.change)

pub index_mut-requires : goal.index_mut-requires
index_mut-requires c =
    let within = number_within c.args.self.now.numbers.items c.args.change c.requires.change in
    omega (arith, within, c.args.self.now.numbers.ok.0)

pub returns-clause-settled : goal.returns-clause-settled
returns-clause-settled c =
    let fits : FitsSigned w64 c.args.change.new = search rules in
    rw (to_z-of_z w64 c.args.change.new fits)
    (omega (arith, c.truths_after-self.ensures, c.requires.settled, truths_after_change c.args.self.now.numbers.items c.args.change c.requires.change))
