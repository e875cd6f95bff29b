use Rattle.std.proofs.Common.{◌≡◌, ◌+◌}
use Rattle.trial.proofs.asking.tick_each.Given as goal

abbrev pub invariant-loop-change : goal.invariant-loop-change
invariant-loop-change g l = record {
  steps : l.steps ≡ l.initial.steps + l._change-index;
}
