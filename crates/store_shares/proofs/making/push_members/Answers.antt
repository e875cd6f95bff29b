use Rattle.std.proofs.Common.{◌≡◌, ◌∙◌, ◌+◌, ◌++◌, true, All, List, map, take, refl, subst, sym, ap}
use Rattle.std.proofs.lemmas.List.{take_all}
use Rattle.term_model.specs.declared.model.Member.{Member}
use Rattle.store_shares.specs.Making.{IsMaking}
use Rattle.store_shares.specs.Telling.{IsClosed}
use Rattle.store_shares.proofs.MakingLaws.{known_member, members_none, members_step}
use Rattle.store_shares.proofs.making.push_members.Goals as goal

pub push_member-requires : goal.push_member-requires
push_member-requires g c =
    let before = c.loop-member.invariant in
    let all = subst (λ (ms : List Member). All (λ t. g.I.Ids.knows c.args.ids.now t ≡ true) (map (λ (m : Member). m.term) ms)) (sym c.deref-member-items.ensures.value) c.requires.knows in
    record {
      knows = ap (λ f. f c.member-item.result.term) before.same_known
          ∙ known_member (g.I.Ids.knows c.args.ids.now) c.deref-member-items.result.now c.loop-member.member-index c.member-item.result all c.loop-member-test.true c.member-item.is;
      closed = subst IsClosed (sym before.same_known) c.requires.closed;
      ready = before.ready;
    }

pub loop-member-init : goal.loop-member-init
loop-member-init g c = record {
  more = λ variables terms made. subst (IsMaking variables (g.I.Ids.id_of c.args.ids.now) c.args.making.now) (members_none terms) made;
  systems = refl;
  same_ids = refl;
  same_known = refl;
  ready = c.requires.ready;
}

pub loop-member-preserved : goal.loop-member-preserved
loop-member-preserved g c =
    let before = c.loop-member.invariant in
    let more = c.in_ok-push_member.ensures in
    let items = c.deref-member-items.result.now in
    let i = c.loop-member.member-index in
    record {
      more = λ variables terms made.
          let one = subst (λ f. IsMaking variables f c.loop-member.making (terms ++ map (λ (m : Member). m.term) (take c.loop-member.member-index c.deref-member-items.result.now))) (sym before.same_ids) (before.more variables terms made) in
          let two = more.more variables (terms ++ map (λ (m : Member). m.term) (take c.loop-member.member-index c.deref-member-items.result.now)) one in
          subst (λ f. IsMaking variables f c.push_member.new.making (terms ++ map (λ (m : Member). m.term) (take (c.loop-member.member-index + 1) c.deref-member-items.result.now))) before.same_ids
          (subst (IsMaking variables (g.I.Ids.id_of c.loop-member.ids) c.push_member.new.making)
          (members_step c.deref-member-items.result.now c.loop-member.member-index c.member-item.result terms c.loop-member-test.true c.member-item.is) two);
      systems = more.systems ∙ before.systems;
      same_ids = more.same_ids ∙ before.same_ids;
      same_known = more.same_known ∙ before.same_known;
      ready = more.ready;
    }

pub returns-clause-more : goal.returns-clause-more
returns-clause-more g c variables terms made =
    subst (λ (ms : List Member). IsMaking variables (g.I.Ids.id_of c.args.ids.now) c.loop-member.making (terms ++ map (λ (m : Member). m.term) ms))
    (take_all c.loop-member.member-index c.deref-member-items.result.now c.loop-member-test.false ∙ c.deref-member-items.ensures.value) (c.loop-member.invariant.more variables terms made)
