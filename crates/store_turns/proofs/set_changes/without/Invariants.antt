use Rattle.std.proofs.Common.{◌≡◌, take}
use Rattle.store_turns.specs.Telling.{without}
use Rattle.store_turns.proofs.set_changes.without.Given as goal

abbrev pub invariant-loop-member : goal.invariant-loop-member
invariant-loop-member l = record {
  members : l.members.items ≡ without l.other (take l.member-index l.member-items);
}
