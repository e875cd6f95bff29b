use Rattle.std.proofs.Common.{rules}
use Rattle.inc_store.proofs.NodeLists.{nothing_other}
use Rattle.inc_store.proofs.course.keep_value.Goals as goal

pub returns-in_ok-insert-clause-change : goal.returns-in_ok-insert-clause-change
returns-in_ok-insert-clause-change g c = record {
  here = search rules;
  elsewhere = search rules;
}

pub returns-else-other-clause-cells : goal.returns-else-other-clause-cells
returns-else-other-clause-cells g c = nothing_other c.args.cells.now c.args.id c.args.value c.args.other c.requires.within c.requires.told c.if-other.false
