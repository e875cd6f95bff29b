use Rattle.std.proofs.Common.{◌≡◌, ◌≤◌}
use Rattle.diff_load_seq.specs.Levels.{raised_between, IsKept}
use Rattle.diff_load_seq.proofs.levels.Levels.raise_between.Given as goal

abbrev pub invariant-loop-place : goal.invariant-loop-place
invariant-loop-place l = record {
  each : l.self.each.items ≡ raised_between l.fn.first l.place l.fn.by l.fn.self.each.items;
  kept : IsKept l.self;
  from : l.fn.first ≤ l.place;
  to : l.place ≤ l.fn.last;
}
