use Rattle.inc_store.specs.Views.{IsUsable}
use Rattle.store_runs.proofs.rounds.follow.Given as goal

abbrev pub invariant-loop-round : goal.invariant-loop-round
invariant-loop-round g l = IsUsable g.N.NodeRule.rule g.N.NodeRule.held g.N.NodeRule.ready l.store
