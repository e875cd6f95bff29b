-- What is left behind the blanks so far is left behind all.
use Rattle.std.proofs.Common.{◌≡◌, ◌-◌, length, drop}
use Rattle.comet_meaning.specs.Data.{behind_blanks}
use Rattle.run_state.proofs.words.behind_blanks.Given as goal

abbrev pub invariant-loop-next : goal.invariant-loop-next
invariant-loop-next l = behind_blanks (drop l.next l.text) ≡ behind_blanks (drop l.from l.text)

abbrev pub decreases-loop-next : goal.decreases-loop-next
decreases-loop-next l = length l.text - l.next
