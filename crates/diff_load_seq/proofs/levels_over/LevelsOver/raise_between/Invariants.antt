use Rattle.std.proofs.Common.{◌≡◌, ◌≤◌}
use Rattle.diff_load_seq.specs.Levels.{raised_between}
use Rattle.diff_load_seq.specs.LevelsOver.{shown, IsKeptOver}
use Rattle.diff_load_seq.proofs.levels_over.LevelsOver.raise_between.Given as goal

abbrev pub invariant-loop-place : goal.invariant-loop-place
invariant-loop-place l = record {
  shown : shown l.levels.each.items l.self ≡ raised_between l.fn.first l.place l.fn.by (shown l.levels.each.items l.fn.self);
  kept : IsKeptOver l.levels.each.items l.self;
  from : l.fn.first ≤ l.place;
  to : l.place ≤ l.fn.last;
}
