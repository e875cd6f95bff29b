use Rattle.std.proofs.Common.{◌≡◌}
use Rattle.inc_store.specs.Faults.{first_failing}
use Rattle.inc_store.proofs.commits.first_fault.Given as goal

abbrev pub invariant-loop-id : goal.invariant-loop-id
invariant-loop-id l = record {
  first : l.first ≡ first_failing l.yielded;
}
