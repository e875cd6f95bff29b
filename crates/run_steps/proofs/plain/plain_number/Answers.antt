use Rattle.run_objects.specs.OfRunState.Views.{state_seen}
use Rattle.run_steps.specs.Views.{part}
use Rattle.run_steps.proofs.PlainLaws.{whole_plain}
use Rattle.run_steps.proofs.plain.plain_number.Goals as goal

pub returns : goal.returns
returns c = record { given = λ code printed. whole_plain code c.args.room (part c.args.e.now) (state_seen c.args.s.now printed) c.number_within.result (c.number_within.ensures.given code printed) }
