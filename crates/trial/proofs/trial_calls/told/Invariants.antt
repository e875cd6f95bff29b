use Rattle.std.proofs.Common.{map}
use Rattle.store_turns.specs.Cones.{has}
use Rattle.trial.specs.Parts.{moves_of}
use Rattle.trial.proofs.PartFrames.{part_of}
use Rattle.trial.proofs.trial_calls.told.Given as goal

abbrev pub ghost-answer : goal.ghost-answer
ghost-answer g a = record {
  part = part_of (has a.members.now) (map g.N.NodeRule.rule a.store.now.nodes.items) (map g.N.NodeRule.held a.store.now.nodes.items) a.store.now.frame a.store.now.cells;
  ask = record { moves = moves_of (has a.members.now) a.moves.now; base = a.steps.now };
}
