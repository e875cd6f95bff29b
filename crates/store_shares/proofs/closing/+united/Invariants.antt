use Rattle.std.proofs.Common.{length}
use Rattle.store_shares.proofs.closing.+united.Given as goal

abbrev pub decreases-united : goal.decreases-united
decreases-united l = length l.variables.now
