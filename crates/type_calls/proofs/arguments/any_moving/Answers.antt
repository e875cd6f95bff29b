use Rattle.std.proofs.Common.{rules}
use Rattle.type_calls.proofs.Lists.{any_moving_seen}
use Rattle.type_calls.proofs.arguments.any_moving.Goals as goal

pub returns : goal.returns
returns c = rw (any_moving_seen c.args.values.now) (search rules)
