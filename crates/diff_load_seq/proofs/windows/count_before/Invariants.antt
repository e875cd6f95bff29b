use Rattle.std.proofs.Common.{◌≡◌, take}
use Rattle.cbl_violations.specs.Violations.Sequence.{count_in}
use Rattle.diff_load_seq.proofs.windows.count_before.Given as goal

abbrev pub invariant-loop-k : goal.invariant-loop-k
invariant-loop-k l = l.count ≡ count_in l.values (take l.k l.numbers)
