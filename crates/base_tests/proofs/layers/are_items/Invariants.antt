use Rattle.std.proofs.Common.{ℕ, ◌<◌, length, get_or}
use Rattle.layer_plan.specs.Dependencies.{list_of}
use Rattle.base_tests.proofs.layers.are_items.Given as goal

abbrev pub invariant-loop-item : goal.invariant-loop-item
invariant-loop-item l = (v k : ℕ) → v < l.item → k < length (list_of l.deps v) → get_or (list_of l.deps v) k 0 < length l.deps
