use Rattle.std.proofs.Common.{◌≡◌, map, take}
use Rattle.term_model.specs.Depth.{depth_of}
use Rattle.store_shares.specs.Slots.{joined_slots, slots_of}
use Rattle.store_shares.specs.Telling.{AllTell}
use Rattle.store_shares.specs.Walked.{IsWalked}
use Rattle.store_shares.proofs.walk.+part_of.Given as goal

abbrev pub invariant-loop-arg : goal.invariant-loop-arg
invariant-loop-arg g l = record {
  walked : IsWalked l.fn.walk l.walk (joined_slots (map slots_of (take l.arg-index l.arg-items)));
  tell : AllTell (g.I.Ids.id_of l.fn.ids) l.parts.items (take l.arg-index l.arg-items) l.fn.walk.slots.count;
  same_ids : g.I.Ids.id_of l.ids ≡ g.I.Ids.id_of l.fn.ids;
  same_known : g.I.Ids.knows l.ids ≡ g.I.Ids.knows l.fn.ids;
  ready : g.I.Ids.is_ready l.ids;
}

abbrev pub decreases-part_of : goal.decreases-part_of
decreases-part_of g l = depth_of l.term.now
