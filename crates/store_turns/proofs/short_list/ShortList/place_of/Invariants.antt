use Rattle.std.proofs.Common.{◌≡◌, take, None}
use Rattle.store_turns.specs.Entries.{look}
use Rattle.store_turns.proofs.short_list.ShortList.place_of.Given as goal

abbrev pub invariant-loop-place : goal.invariant-loop-place
invariant-loop-place l = look l.turn (take l.place (take l.self.live l.self.entries.items)) ≡ None
