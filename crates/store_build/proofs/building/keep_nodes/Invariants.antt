use Rattle.std.proofs.Common.{◌≡◌, ℕ, length, take}
use Rattle.std.specs.List.{Contains}
use Rattle.store_build.specs.Building.{IsFinished, HasPlaces}
use Rattle.store_build.proofs.building.keep_nodes.Given as goal

abbrev pub invariant-loop-node : goal.invariant-loop-node
invariant-loop-node g l = record {
  place : l.place ≡ length l.yielded;
  places : HasPlaces g.aim l.frame l.building;
  kept : (k : ℕ) → IsFinished g.N.NodeRule.rule g.N.NodeRule.held g.N.NodeRule.ready g.aim l.frame l.fn.building k → IsFinished g.N.NodeRule.rule g.N.NodeRule.held g.N.NodeRule.ready g.aim l.frame l.building k;
  all : (k : ℕ) → Contains (take l.place l.ids) k → IsFinished g.N.NodeRule.rule g.N.NodeRule.held g.N.NodeRule.ready g.aim l.frame l.building k;
}
