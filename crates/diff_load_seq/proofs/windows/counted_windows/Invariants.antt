use Rattle.std.proofs.Common.{◌≡◌, ◌+◌, take, map}
use Rattle.std.specs.List.{range_with_len}
use Rattle.cbl_violations.specs.Violations.Sequence.{count_in}
use Rattle.diff_load_seq.specs.Levels.{IsKept}
use Rattle.diff_load_seq.specs.Windows.{window_of}
use Rattle.diff_load_seq.proofs.windows.counted_windows.Given as goal

abbrev pub invariant-loop-start : goal.invariant-loop-start
invariant-loop-start l = record {
  each : l.windows.each.items ≡ map (window_of l.values l.fn.most l.size l.numbers) (range_with_len 0 l.start);
  kept : IsKept l.windows;
  begun : l.begun ≡ count_in l.values (take (l.start + l.size) l.numbers);
  ended : l.ended ≡ count_in l.values (take l.start l.numbers);
}
