use Rattle.pool_monitor.proofs.Leasts.{k_least_after}
use Rattle.pool_monitor.proofs.laws.k_least.Goals as goal

pub returns : goal.returns
returns c = λ desk entries p most is _. k_least_after desk entries p most is
