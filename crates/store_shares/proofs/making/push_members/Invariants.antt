use Rattle.std.proofs.Common.{◌≡◌, ◌++◌, ℕ, List, map, take}
use Rattle.term_model.specs.declared.model.Member.{Member}
use Rattle.term_model.specs.declared.term.Term.{Term}
use Rattle.store_shares.specs.Making.{IsMaking}
use Rattle.store_shares.proofs.making.push_members.Given as goal

abbrev pub invariant-loop-member : goal.invariant-loop-member
invariant-loop-member g l = record {
  more : (variables : ℕ) (terms : List Term) → IsMaking variables (g.I.Ids.id_of l.fn.ids) l.fn.making terms →
      IsMaking variables (g.I.Ids.id_of l.fn.ids) l.making (terms ++ map (λ (m : Member). m.term) (take l.member-index l.member-items));
  systems : l.making.systems.items ≡ l.fn.making.systems.items;
  same_ids : g.I.Ids.id_of l.ids ≡ g.I.Ids.id_of l.fn.ids;
  same_known : g.I.Ids.knows l.ids ≡ g.I.Ids.knows l.fn.ids;
  ready : g.I.Ids.is_ready l.ids;
}
