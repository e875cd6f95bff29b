use Rattle.std.proofs.Common.{rules}
use Rattle.type_calls.proofs.Lists.{all_numbers_seen}
use Rattle.type_calls.proofs.arguments.all_numbers.Goals as goal

pub returns : goal.returns
returns c = rw (all_numbers_seen c.args.values.now) (search rules)
