use Rattle.run_steps.proofs.PlainLaws.{named_slot}
use Rattle.run_steps.proofs.plain.plain_slot.Goals as goal

pub returns-in-Name : goal.returns-in-Name
returns-in-Name c = record { given = λ code s. named_slot code c.args.room c.args.e.now c.in-Name.slot s c.slot_of.result c.if-room-eq0.false c.in-Name.is (c.slot_of.ensures s) }
