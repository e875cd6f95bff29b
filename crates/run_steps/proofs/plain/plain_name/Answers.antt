use Rattle.run_objects.specs.OfRunState.Views.{state_seen}
use Rattle.run_steps.proofs.PlainLaws.{named_value}
use Rattle.run_steps.proofs.plain.plain_name.Goals as goal

pub returns-in-Name : goal.returns-in-Name
returns-in-Name c = record { given = λ code printed. named_value code c.args.room c.args.e.now c.in-Name.slot (state_seen c.args.s.now printed) c.plain_value.result c.if-room-eq0.false c.in-Name.is (c.plain_value.ensures printed) }
