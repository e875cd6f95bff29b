use Rattle.std.proofs.Common.{rules}
use Rattle.type_calls.proofs.Lists.{all_fit_seen}
use Rattle.type_calls.proofs.arguments.all_fit.Goals as goal

pub returns : goal.returns
returns c = rw (all_fit_seen c.args.kinds.now c.args.values.now) (search rules)
