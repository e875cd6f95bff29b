use Rattle.std.proofs.Common.{◌+◌, ◌-◌, ◌≤◌}
use Rattle.store_turns.specs.Meaning.{layer_of}
use Rattle.inc_store.specs.Course.{NotBefore, first_front}
use Rattle.trial.specs.Course.{InProbe}
use Rattle.trial.proofs.turning.run.Given as goal

abbrev pub invariant-loop-turn : goal.invariant-loop-turn
invariant-loop-turn g l = record {
  course : InProbe g.query.part.rules g.query.part.frame g.query.part.cells g.query.ask l.overlay (NotBefore l.front (layer_of g.query.part.frame)) (l.steps + 4);
  high : first_front ≤ l.front;
  bound : l.front ≤ 18446744073709551616;
}

abbrev pub decreases-loop-turn : goal.decreases-loop-turn
decreases-loop-turn g l = 18446744073709551617 - l.front

abbrev pub ghost-turn : goal.ghost-turn
ghost-turn g a = g.query
