use Rattle.std.proofs.Common.{rules}
use Rattle.type_calls.proofs.Lists.{any_unfixed_seen}
use Rattle.type_calls.proofs.arguments.any_unfixed.Goals as goal

pub returns : goal.returns
returns c = rw (any_unfixed_seen c.args.wants.now c.args.values.now) (search rules)
