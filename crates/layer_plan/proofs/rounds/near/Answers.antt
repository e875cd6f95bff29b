use Rattle.std.proofs.Common.{ℕ, get_or, arith}
use Rattle.layer_plan.proofs.SpreadSteps.{Spread-end}
use Rattle.layer_plan.proofs.rounds.near.Goals as goal

pub returns-clause-near : goal.returns-clause-near
returns-clause-near c = λ deps u. Spread-end deps c.args.uses.now (λ (v : ℕ). get_or c.loop-head.rounds.near.items v 0) c.loop-head.rounds.queue.items c.loop-head.head c.args.root c.loop-head.invariant.0.spread (omega arith) c.loop-head.invariant.1 u
