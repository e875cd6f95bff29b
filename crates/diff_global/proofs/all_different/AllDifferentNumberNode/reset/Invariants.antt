use Rattle.std.proofs.Common.{◌≡◌, take}
use Rattle.diff_global.specs.Repeats.{repeats}
use Rattle.diff_global.proofs.all_different.AllDifferentNumberNode.reset.Given as goal

abbrev pub invariant-loop-x : goal.invariant-loop-x
invariant-loop-x l = record { tally : l.self.tally ≡ take l.x-index l.numbers; repeats : l.self.repeats ≡ repeats l.self.tally }
