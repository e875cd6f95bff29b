use Rattle.std.proofs.Common.{◌≡◌, take}
use Rattle.store_shares.specs.Making.{IsMakingOf}
use Rattle.store_shares.proofs.making.parts_made.Given as goal

abbrev pub invariant-loop-total : goal.invariant-loop-total
invariant-loop-total g l = record {
  made : IsMakingOf l.variables (g.I.Ids.id_of l.fn.ids) l.making (take l.total-index l.totals);
  same_ids : g.I.Ids.id_of l.ids ≡ g.I.Ids.id_of l.fn.ids;
  same_known : g.I.Ids.knows l.ids ≡ g.I.Ids.knows l.fn.ids;
  ready : g.I.Ids.is_ready l.ids;
}
