use Rattle.std.proofs.Common.{◌≡◌, ◌++◌, drop}
use Rattle.std.specs.List.{flat_map}
use Rattle.journal_text.specs.Grammar.{loop_lines, ended}
use Rattle.journal_text.proofs.printing.push_loops.Given as goal

abbrev pub invariant-loop-history : goal.invariant-loop-history
invariant-loop-history l = l.out.items ++ ended (flat_map (loop_lines l.version) (drop l.history-index l.loops)) ≡ l.fn.out.items ++ ended (flat_map (loop_lines l.version) l.loops)
