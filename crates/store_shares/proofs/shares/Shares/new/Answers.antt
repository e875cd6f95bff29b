use Rattle.std.proofs.Common.{◌≡◌, ◌∙◌, length, rules, refl, sym, ap, subst}
use Rattle.layer_plan.specs.Dependencies.{list_of}
use Rattle.store_shares.specs.Closing.{AreUsers, depends_in}
use Rattle.store_shares.specs.Making.{IsMakingOf, named_among, slots_among, terms_in}
use Rattle.store_shares.specs.Settled.{AreSets}
use Rattle.store_shares.proofs.ClosingLaws.{ranked_by, sets_are}
use Rattle.store_shares.proofs.MakingLaws.{shares_of}
use Rattle.store_shares.proofs.shares.Shares.new.Goals as goal

pub closed-requires-clause-ranked : goal.closed-requires-clause-ranked
closed-requires-clause-ranked g c =
    let long : c.len.result ≡ length c.args.model.now.vars.items = search rules in
    let made : IsMakingOf (length c.args.model.now.vars.items) (g.I.Ids.id_of c.args.ids.now) c.in_ok-walk.field-0 c.args.model.now.systems.items =
    subst (λ n. IsMakingOf n (g.I.Ids.id_of c.args.ids.now) c.in_ok-walk.field-0 c.args.model.now.systems.items) long
    (subst (IsMakingOf c.len.result (g.I.Ids.id_of c.args.ids.now) c.in_ok-walk.field-0) c.deref.ensures.value c.in_ok-walk.ensures) in
    let uses : AreUsers c.args.model.now (list_of c.deref-4.result.now) = subst (λ l. AreUsers c.args.model.now (list_of l)) (sym c.deref-4.ensures.value) c.in_ok-users.ensures.users in
    ranked_by c.args.model.now c.requires.formed c.requires.acyclic c.deref-3.result.now c.deref-4.result.now (ap length c.deref-3.ensures.value ∙ made.made.slots.width) uses

pub closed-requires-2-clause-ranked : goal.closed-requires-2-clause-ranked
closed-requires-2-clause-ranked g c =
    let long : c.len.result ≡ length c.args.model.now.vars.items = search rules in
    let made : IsMakingOf (length c.args.model.now.vars.items) (g.I.Ids.id_of c.args.ids.now) c.in_ok-walk.field-0 c.args.model.now.systems.items =
    subst (λ n. IsMakingOf n (g.I.Ids.id_of c.args.ids.now) c.in_ok-walk.field-0 c.args.model.now.systems.items) long
    (subst (IsMakingOf c.len.result (g.I.Ids.id_of c.args.ids.now) c.in_ok-walk.field-0) c.deref.ensures.value c.in_ok-walk.ensures) in
    let uses : AreUsers c.args.model.now (list_of c.deref-7.result.now) = subst (λ l. AreUsers c.args.model.now (list_of l)) (sym c.deref-7.ensures.value) c.in_ok-users.ensures.users in
    ranked_by c.args.model.now c.requires.formed c.requires.acyclic c.deref-6.result.now c.deref-7.result.now (ap length c.deref-6.ensures.value ∙ made.made.members.width) uses

pub returns : goal.returns
returns g c =
    let long : c.len.result ≡ length c.args.model.now.vars.items = search rules in
    let made : IsMakingOf (length c.args.model.now.vars.items) (g.I.Ids.id_of c.args.ids.now) c.in_ok-walk.field-0 c.args.model.now.systems.items =
    subst (λ n. IsMakingOf n (g.I.Ids.id_of c.args.ids.now) c.in_ok-walk.field-0 c.args.model.now.systems.items) long
    (subst (IsMakingOf c.len.result (g.I.Ids.id_of c.args.ids.now) c.in_ok-walk.field-0) c.deref.ensures.value c.in_ok-walk.ensures) in
    let slot_users : AreUsers c.args.model.now (list_of c.deref-4.result.now) = subst (λ l. AreUsers c.args.model.now (list_of l)) (sym c.deref-4.ensures.value) c.in_ok-users.ensures.users in
    let member_users : AreUsers c.args.model.now (list_of c.deref-7.result.now) = subst (λ l. AreUsers c.args.model.now (list_of l)) (sym c.deref-7.ensures.value) c.in_ok-users.ensures.users in
    let slot_sets : AreSets (depends_in c.args.model.now (slots_among (terms_in c.args.model.now.systems.items))) (length c.args.model.now.vars.items) c.in_ok-slots.slots.items =
    sets_are c.args.model.now c.requires.formed c.requires.acyclic c.deref-3.result.now c.deref-4.result.now c.in_ok-walk.field-0.walk.slots (slots_among (terms_in c.args.model.now.systems.items)) c.in_ok-slots.slots.items
    c.deref-3.ensures.value slot_users made.made.slots c.in_ok-slots.ensures in
    let member_sets : AreSets (depends_in c.args.model.now (named_among (terms_in c.args.model.now.systems.items))) (length c.args.model.now.vars.items) c.in_ok-members.members.items =
    sets_are c.args.model.now c.requires.formed c.requires.acyclic c.deref-6.result.now c.deref-7.result.now c.in_ok-walk.field-0.members (named_among (terms_in c.args.model.now.systems.items)) c.in_ok-members.members.items
    c.deref-6.ensures.value member_users made.made.members c.in_ok-members.ensures in
    shares_of c.args.model.now (g.I.Ids.id_of c.args.ids.now) c.in_ok-walk.field-0 made
    (record { systems = c.in_ok-walk.field-0.systems; parts = c.in_ok-walk.field-0.parts; slots = c.in_ok-slots.slots; members = c.in_ok-members.members }) refl refl slot_sets member_sets
