use Rattle.std.proofs.Common.{◌-◌, ◌≤◌}
use Rattle.diff_load_seq.specs.Parts.{IsSumOf}
use Rattle.diff_load_seq.specs.Levels.{excesses_between}
use Rattle.diff_load_seq.proofs.levels.Levels.excess_between.Given as goal

abbrev pub invariant-loop-place : goal.invariant-loop-place
invariant-loop-place l = record {
  sum : IsSumOf l.sum (excesses_between l.self.each.items l.fn.first (l.place - l.fn.first));
  from : l.fn.first ≤ l.place;
  to : l.place ≤ l.fn.last;
}
