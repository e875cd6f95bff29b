use Rattle.std.proofs.Common.{rules}
use Rattle.type_calls.proofs.Lists.{all_suit_seen}
use Rattle.type_calls.proofs.arguments.all_suit.Goals as goal

pub returns : goal.returns
returns c = rw (all_suit_seen c.args.wants.now c.args.values.now) (search rules)
