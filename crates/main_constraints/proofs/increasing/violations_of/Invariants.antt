use Rattle.std.proofs.Common.{◌≡◌, ◌*◌, ◌^◌, ◌≤◌, take}
use Rattle.main_constraints.specs.Increasing.{falls}
use Rattle.main_constraints.proofs.increasing.violations_of.Given as goal

abbrev pub invariant-loop-place : goal.invariant-loop-place
invariant-loop-place l = record {
  sum : l.sum ≡ falls (take l.place l.numbers);
  small : l.sum ≤ 2 ^ 64 * l.place;
}
