use Rattle.std.proofs.Common.{◌≡◌, ◌≤◌, ◌++◌, length, map, All}
use Rattle.store_turns.specs.Meaning.{ids_of}
use Rattle.store_turns.specs.Cones.{IsCone}
use Rattle.store_build.specs.Lists.{list_in}
use Rattle.store_build.specs.Unused.{unused_below}
use Rattle.store_build.proofs.cones.cones_of.Given as goal

abbrev pub invariant-loop-id : goal.invariant-loop-id
invariant-loop-id l = record {
  cones : All (IsCone (λ j. ids_of (list_in l.fn.inputs j)) (length l.fn.inputs)) l.cones.items;
  most : length l.cones.items ≤ 64;
  within : l.id ≤ length l.fn.inputs;
  targets : map (λ c. c.target) l.cones.items ++ unused_below (λ j. list_in l.fn.uses j) l.id ≡ unused_below (λ j. list_in l.fn.uses j) (length l.fn.inputs);
}

abbrev pub decreases-loop-id : goal.decreases-loop-id
decreases-loop-id l = l.id
