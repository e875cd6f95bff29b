use Rattle.store_turns.proofs.TwoParts.{popped_alone}
use Rattle.store_turns.proofs.waiting.Waiting.pop.Goals as goal

pub returns-in-None-clause-taken : goal.returns-in-None-clause-taken
returns-in-None-clause-taken g c = popped_alone c.args.self.now c.pop_far.new.self c.pop_far.ensures.near c.pop_far.result c.in-None.ensures c.pop_far.ensures.far
