use Rattle.std.proofs.Common.{ℕ, ◌<◌, length}
use Rattle.store_turns.specs.Meaning.{layer_of}
use Rattle.store_build.specs.Building.{IsFinished, HasPlaces}
use Rattle.store_build.proofs.building.build_layers.Given as goal

abbrev pub ghost-build_layer : goal.ghost-build_layer
ghost-build_layer g a = g.aim

abbrev pub invariant-loop-group : goal.invariant-loop-group
invariant-loop-group g l = record {
  places : HasPlaces g.aim l.frame l.building;
  all : (k : ℕ) → k < length l.frame.inputs.items → layer_of l.frame k < length l.yielded → IsFinished g.N.NodeRule.rule g.N.NodeRule.held g.N.NodeRule.ready g.aim l.frame l.building k;
}
