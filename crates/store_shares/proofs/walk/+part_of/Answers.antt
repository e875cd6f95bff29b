use Rattle.std.proofs.Common.{rules, ◌+◌, ◌≡◌, ◌∙◌, ◌<◌, true, false, [], map, take, subst, sym, ap}
use Rattle.std.proofs.lemmas.List.{take_all}
use Rattle.term_model.specs.Definitions.{vars_of}
use Rattle.term_model.specs.Depth.{depth_of}
use Rattle.term_model.proofs.Layers.{depth_below}
use Rattle.store_shares.specs.Slots.{is_flat, joined_slots, kind_of, part_by, slots_of}
use Rattle.store_shares.specs.Telling.{AllTell, IsClosed, Tells}
use Rattle.store_shares.specs.Walked.{IsWalked}
use Rattle.store_shares.proofs.WalkLaws.{flat_tells, flat_walked, known_arg, leaf_part_tells, leaf_walked, made_tells, made_walked, tell_args, walked_args, walked_none}
use Rattle.store_shares.proofs.walk.+part_of.Goals as goal

pub returns-in_default-clause-walked : goal.returns-in_default-clause-walked
returns-in_default-clause-walked g t c = leaf_walked c.args.term.now c.in_default.not-Node c.args.walk.now

pub returns-in_default-clause-tells : goal.returns-in_default-clause-tells
returns-in_default-clause-tells g t c = leaf_part_tells (g.I.Ids.id_of c.args.ids.now) c.args.term.now c.in_default.not-Node c.in_ok-id.id c.args.walk.now.slots.count c.in_ok-id.ensures.id

pub returns-then-is_flat-clause-walked : goal.returns-then-is_flat-clause-walked
returns-then-is_flat-clause-walked g t c =
    let old = c.args.walk.now in
    let new = c.push_slots.new.walk in
    let flat : is_flat (kind_of c.in-Node.op) ≡ true = ap is_flat (sym c.kind_of-kind.ensures) ∙ sym c.is_flat.ensures ∙ c.if-is_flat.true in
    let walked : IsWalked old new (map vars_of c.in-Node.args.items) = subst (λ ts. IsWalked old new (map vars_of ts)) c.deref.ensures.value c.in_ok-push_slots.ensures in
    flat_walked (g.I.Ids.id_of c.args.ids.now) c.args.term.now c.in-Node.op c.in-Node.args c.in-Node.place c.in-Node.is c.in_ok-id.id c.in_ok-id.ensures.id old new flat walked

pub returns-then-is_flat-clause-tells : goal.returns-then-is_flat-clause-tells
returns-then-is_flat-clause-tells g t c =
    let ids = g.I.Ids.id_of c.args.ids.now in
    let old = c.args.walk.now in
    let new = c.push_slots.new.walk in
    let flat : is_flat (kind_of c.in-Node.op) ≡ true = ap is_flat (sym c.kind_of-kind.ensures) ∙ sym c.is_flat.ensures ∙ c.if-is_flat.true in
    let walked : IsWalked old new (map vars_of c.in-Node.args.items) = subst (λ ts. IsWalked old new (map vars_of ts)) c.deref.ensures.value c.in_ok-push_slots.ensures in
    let is : c.part_by.result ≡ part_by (kind_of c.in-Node.op) c.in_ok-id.id old.slots.count new.slots.count c.new-parts.result =
    c.part_by.ensures ∙ ap (λ k. part_by k c.in_ok-id.id c.args.walk.now.slots.count c.push_slots.new.walk.slots.count c.new-parts.result) c.kind_of-kind.ensures in
    subst (λ p. Tells (g.I.Ids.id_of c.args.ids.now) p c.args.term.now c.args.walk.now.slots.count) (sym is)
    (flat_tells (g.I.Ids.id_of c.args.ids.now) c.args.term.now c.in-Node.op c.in-Node.args c.in-Node.place c.in-Node.is c.in_ok-id.id c.in_ok-id.ensures.id old new flat walked c.new-parts.result)

pub part_of-requires : goal.part_of-requires
part_of-requires g t c κs within =
    let items = c.deref-arg-items.result.now in
    let item = c.arg-item.result in
    let before = c.loop-arg.invariant in
    let below : depth_of c.arg-item.result < depth_of c.args.term.now = depth_below c.args.term.now c.in-Node.op c.in-Node.args c.in-Node.place c.deref-arg-items.result.now c.loop-arg.arg-index c.arg-item.result c.in-Node.is c.deref-arg-items.ensures.value c.loop-arg-test.true c.arg-item.is in
    let one : g.I.Ids.knows c.args.ids.now c.arg-item.result ≡ true =
    known_arg (g.I.Ids.knows c.args.ids.now) c.requires.closed c.args.term.now c.in-Node.op c.in-Node.args c.in-Node.place c.in-Node.is c.requires.knows c.deref-arg-items.result.now c.loop-arg.arg-index c.arg-item.result
    c.deref-arg-items.ensures.value c.loop-arg-test.true c.arg-item.is in
    (search (rules, below), (within, (ap (λ f. f c.arg-item.result) before.same_known ∙ one, (subst IsClosed (sym before.same_known) c.requires.closed, before.ready))))

pub loop-arg-init : goal.loop-arg-init
loop-arg-init g t c = record {
  walked = walked_none c.args.walk.now;
  tell = subst (λ ps. AllTell (g.I.Ids.id_of c.args.ids.now) ps [] c.args.walk.now.slots.count) (sym c.new-parts.ensures.items) tt;
  same_ids = c.id.ensures.same_ids;
  same_known = c.id.ensures.same_known;
  ready = c.id.ensures.ready;
}

pub loop-arg-preserved : goal.loop-arg-preserved
loop-arg-preserved g t c =
    let before = c.loop-arg.invariant in
    let more = c.in_ok-part.ensures in
    let i = c.loop-arg.arg-index in
    let tells : Tells (g.I.Ids.id_of c.args.ids.now) c.in_ok-part.part c.arg-item.result c.loop-arg.walk.slots.count =
    subst (λ f. Tells f c.in_ok-part.part c.arg-item.result c.loop-arg.walk.slots.count) before.same_ids more.tells in
    record {
      walked = walked_args c.args.walk.now c.loop-arg.walk c.part_of.new.walk c.deref-arg-items.result.now c.loop-arg.arg-index c.arg-item.result c.loop-arg-test.true c.arg-item.is before.walked more.walked;
      tell = subst (λ ps. AllTell (g.I.Ids.id_of c.args.ids.now) ps (take (i + 1) c.deref-arg-items.result.now) c.args.walk.now.slots.count) (sym c.in_ok-push.ensures.items)
          (tell_args (g.I.Ids.id_of c.args.ids.now) c.args.walk.now c.loop-arg.walk c.loop-arg.parts.items c.deref-arg-items.result.now c.loop-arg.arg-index c.arg-item.result c.in_ok-part.part
          c.loop-arg-test.true c.arg-item.is before.tell before.walked tells);
      same_ids = more.same_ids ∙ before.same_ids;
      same_known = more.same_known ∙ before.same_known;
      ready = more.ready;
    }

pub returns-clause-walked : goal.returns-clause-walked
returns-clause-walked g t c =
    let old = c.args.walk.now in
    let new = c.loop-arg.walk in
    let made : is_flat (kind_of c.in-Node.op) ≡ false = ap is_flat (sym c.kind_of-kind.ensures) ∙ sym c.is_flat.ensures ∙ c.if-is_flat.false in
    let all : take c.loop-arg.arg-index c.deref-arg-items.result.now ≡ c.in-Node.args.items = take_all c.loop-arg.arg-index c.deref-arg-items.result.now c.loop-arg-test.false ∙ c.deref-arg-items.ensures.value in
    let walked : IsWalked old new (joined_slots (map slots_of c.in-Node.args.items)) = subst (λ ts. IsWalked old new (joined_slots (map slots_of ts))) all c.loop-arg.invariant.walked in
    made_walked (g.I.Ids.id_of c.args.ids.now) c.args.term.now c.in-Node.op c.in-Node.args c.in-Node.place c.in-Node.is c.in_ok-id.id c.in_ok-id.ensures.id old new made walked

pub returns-clause-tells : goal.returns-clause-tells
returns-clause-tells g t c =
    let old = c.args.walk.now in
    let new = c.loop-arg.walk in
    let made : is_flat (kind_of c.in-Node.op) ≡ false = ap is_flat (sym c.kind_of-kind.ensures) ∙ sym c.is_flat.ensures ∙ c.if-is_flat.false in
    let all : take c.loop-arg.arg-index c.deref-arg-items.result.now ≡ c.in-Node.args.items = take_all c.loop-arg.arg-index c.deref-arg-items.result.now c.loop-arg-test.false ∙ c.deref-arg-items.ensures.value in
    let walked : IsWalked old new (joined_slots (map slots_of c.in-Node.args.items)) = subst (λ ts. IsWalked old new (joined_slots (map slots_of ts))) all c.loop-arg.invariant.walked in
    let whole = made_walked (g.I.Ids.id_of c.args.ids.now) c.args.term.now c.in-Node.op c.in-Node.args c.in-Node.place c.in-Node.is c.in_ok-id.id c.in_ok-id.ensures.id old new made walked in
    let tell : AllTell (g.I.Ids.id_of c.args.ids.now) c.loop-arg.parts.items c.in-Node.args.items old.slots.count =
    subst (λ ts. AllTell (g.I.Ids.id_of c.args.ids.now) c.loop-arg.parts.items ts c.args.walk.now.slots.count) all c.loop-arg.invariant.tell in
    let is : c.part_by-2.result ≡ part_by (kind_of c.in-Node.op) c.in_ok-id.id old.slots.count new.slots.count c.loop-arg.parts =
    c.part_by-2.ensures ∙ ap (λ k. part_by k c.in_ok-id.id c.args.walk.now.slots.count c.loop-arg.walk.slots.count c.loop-arg.parts) c.kind_of-kind.ensures in
    subst (λ p. Tells (g.I.Ids.id_of c.args.ids.now) p c.args.term.now c.args.walk.now.slots.count) (sym is)
    (made_tells (g.I.Ids.id_of c.args.ids.now) c.args.term.now c.in-Node.op c.in-Node.args c.in-Node.place c.in-Node.is c.in_ok-id.id c.in_ok-id.ensures.id old new made c.loop-arg.parts tell whole)
