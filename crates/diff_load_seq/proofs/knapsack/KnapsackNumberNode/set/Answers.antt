use Rattle.std.proofs.Common.{◌∙◌, rules, arith, w64}
use Rattle.std.specs.Prelude.{FitsSigned}
use Rattle.std.proofs.lemmas.Int.{to_z-of_z}
use Rattle.std.proofs.lemmas.List.{length-set}
use Rattle.diff_load_seq.proofs.ProductLemmas.{change_within, load_room, load_moved}
use Rattle.diff_load_seq.proofs.knapsack.KnapsackNumberNode.set.Goals as goal

pub moved-self-requires-clause-room : goal.moved-self-requires-clause-room
moved-self-requires-clause-room c =
    load_room c.args.self.now.weights c.args.self.now.numbers.items c.args.change c.requires.change c.args.self.now.load c.requires.settled.1

pub index_mut-requires : goal.index_mut-requires
index_mut-requires c =
    let within = change_within c.args.self.now.weights c.args.self.now.numbers.items c.args.change c.requires.change in
    let ok = c.args.self.now.numbers.ok in
    omega (arith, within, ok.0)

pub returns-clause-settled : goal.returns-clause-settled
returns-clause-settled c =
    let fits : FitsSigned w64 c.args.change.new = search rules in
    rw (to_z-of_z w64 c.args.change.new fits) (
      length-set c.args.self.now.numbers.items c.args.change.place c.args.change.new ∙ c.requires.settled.0,
      load_moved c.args.self.now.weights c.args.self.now.numbers.items c.args.change c.requires.change c.args.self.now.load c.moved-self.result c.requires.settled.1 c.moved-self.ensures,
    )
