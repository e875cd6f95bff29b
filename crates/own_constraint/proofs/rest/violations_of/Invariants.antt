use Rattle.std.proofs.Common.{◌≡◌, ◌≤◌, take}
use Rattle.own_constraint.specs.Rest.{short_rests}
use Rattle.own_constraint.proofs.rest.violations_of.Given as goal

abbrev pub invariant-loop-day : goal.invariant-loop-day
invariant-loop-day l = record {
  count : l.count ≡ short_rests (take l.day l.shifts);
  small : l.count ≤ l.day;
}
