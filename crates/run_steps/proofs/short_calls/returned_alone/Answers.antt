use Rattle.run_steps.proofs.ShortLaws.{block_alone}
use Rattle.run_steps.proofs.short_calls.returned_alone.Goals as goal

pub returns-in-Block : goal.returns-in-Block
returns-in-Block c = record { given = block_alone c.args.body.now c.in-Block.tasks _ c.in-Block.is (rw c.deref.ensures.value at (c.returned_first.ensures.given c.args.body.now.place)) }
