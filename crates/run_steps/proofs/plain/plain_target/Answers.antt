use Rattle.run_steps.proofs.PlainLaws.{named_target}
use Rattle.run_steps.proofs.plain.plain_target.Goals as goal

pub returns-in-Name : goal.returns-in-Name
returns-in-Name c = record { given = λ code s. named_target code c.args.room c.args.e.now c.in-Name.slot s c.cell_of.result c.if-room-eq0.false c.in-Name.is (c.cell_of.ensures s) }
