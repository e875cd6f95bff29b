use Rattle.std.proofs.Common.{◌≡◌, length, take}
use Rattle.term_model.specs.Naming.{AreMarked}
use Rattle.term_model.proofs.naming.names_each_once.Given as goal

abbrev pub invariant-loop-number : goal.invariant-loop-number
invariant-loop-number l = AreMarked (take l.number-index l.numbers) l.marks.items × (length l.marks.items ≡ l.count)
