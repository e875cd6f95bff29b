use Rattle.std.proofs.Common.{◌≡◌, length, take}
use Rattle.node_base.specs.NumberChanges.{number_changes_of}
use Rattle.node_base.proofs.over_numbers.few_changes.Given as goal

abbrev pub invariant-loop-index : goal.invariant-loop-index
invariant-loop-index l =
    record {
      many : length l.few ≡ 8;
      read : take l.index l.few ≡ number_changes_of (take l.index l.changes);
    }
