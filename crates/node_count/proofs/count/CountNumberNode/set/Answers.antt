use Rattle.std.proofs.Common.{rules, w64, ◌∙◌}
use Rattle.std.specs.Prelude.{FitsSigned}
use Rattle.std.proofs.lemmas.Int.{to_z-of_z}
use Rattle.node_count.proofs.CountTurns.{cell_set, counted_set}
use Rattle.node_count.proofs.count.CountNumberNode.set.Goals as goal

pub returns-in_ok-set-clause-numbers : goal.returns-in_ok-set-clause-numbers
returns-in_ok-set-clause-numbers c =
    let inside = c.if-change-len.true in
    let long = c.len.ensures.length in
    cell_set c.args.self.now.cells c.set.new.self c.args.self.now.counted c.args.change (omega (Rattle.std.proofs.Common.arith, inside, long)) c.in_ok-set.ensures.ok

pub returns-else-change-len-clause-numbers : goal.returns-else-change-len-clause-numbers
returns-else-change-len-clause-numbers c =
    let fits : FitsSigned w64 c.args.change.new = search rules in
    rw (to_z-of_z w64 c.args.change.new fits) (counted_set c.args.self.now.cells c.args.self.now.counted c.args.change c.len.result c.len.ensures.length c.if-change-len.false c.requires.change)
