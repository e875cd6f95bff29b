-- A part of the word was read.
use Rattle.std.proofs.Common.{◌-◌, length}
use Rattle.run_state.proofs.WordLaws.{IsInWord}
use Rattle.run_state.proofs.words.word_end.Given as goal

abbrev pub invariant-loop-next : goal.invariant-loop-next
invariant-loop-next l = IsInWord l.text l.from l.next

abbrev pub decreases-loop-next : goal.decreases-loop-next
decreases-loop-next l = length l.text - l.next
