use Rattle.std.proofs.Common.{◌-◌, arith}
use Rattle.pool_monitor.proofs.Places.{set_last}
use Rattle.pool_monitor.proofs.pool.put_last.Goals as goal

pub returns-then-len-most : goal.returns-then-len-most
returns-then-len-most c = set_last c.args.solutions.now.items (c.args.most - 1) c.args.solution (omega arith)
