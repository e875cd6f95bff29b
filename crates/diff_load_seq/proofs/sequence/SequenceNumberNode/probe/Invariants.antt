use Rattle.std.proofs.Common.{◌≡◌, take}
use Rattle.node_base.specs.NumberChanges.{after_number_changes}
use Rattle.cbl_violations.specs.Violations.Sequence.{size_of}
use Rattle.diff_load_seq.specs.LevelsOver.{shown, IsKeptOver}
use Rattle.diff_load_seq.specs.Windows.{windows_of}
use Rattle.diff_load_seq.proofs.sequence.SequenceNumberNode.probe.Given as goal

abbrev pub invariant-loop-change : goal.invariant-loop-change
invariant-loop-change l = record {
  shown : shown l.self.windows.each.items l.over ≡ windows_of l.self.values l.self.most (size_of l.self.window) (after_number_changes l.self.numbers.items (take l.change-index l.changes));
  kept : IsKeptOver l.self.windows.each.items l.over;
}
