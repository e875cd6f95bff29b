use Rattle.std.proofs.Common.{take}
use Rattle.store_turns.proofs.ShortLists.{IsLeastAt}
use Rattle.store_turns.proofs.short_list.ShortList.first.Given as goal

abbrev pub invariant-loop-place : goal.invariant-loop-place
invariant-loop-place l = IsLeastAt (take l.self.live l.self.entries.items) l.place l.first l.least
