use Rattle.std.proofs.Common.{◌≡◌, ◌∙◌, ◌-◌, ◌≤◌, ℕ, length, map, slice_get, Some, None, refl, ap, subst, arith}
use Rattle.std.specs.Option.{option_map}
use Rattle.std.proofs.lemmas.Iterator.Adapters.{YieldsList-from_vec}
use Rattle.std.proofs.lemmas.Iterator.Consumers.{YieldsList-turn, YieldsList-end}
use Rattle.std.proofs.lemmas.List.{length_push}
use Rattle.std.proofs.lemmas.Option.{slice_get-map}
use Rattle.store_build.specs.Groups.{IsGrouped}
use Rattle.store_build.proofs.GroupLemmas.{none_grouped, item_more}
use Rattle.store_build.proofs.ListLemmas.{at_place}
use Rattle.store_build.proofs.groups.groups_of.Goals as goal

pub loop-id-init : goal.loop-id-init
loop-id-init g c = none_grouped g.N.NodeRule.rule (map g.N.NodeRule.rule c.args.nodes.items) c.args.first c.args.layers.now c.new-groups.result.items c.new-groups.ensures.items

pub loop-id-preserved : goal.loop-id-preserved
loop-id-preserved g c = item_more g.N.NodeRule.rule (map g.N.NodeRule.rule c.args.nodes.items) c.args.first c.args.layers.now c.loop-id.id c.loop-id.groups.items c.add_item.new.groups.items (record { id = c.loop-id.id; node = None }) refl (omega arith) c.in_ok-add_item.ensures.here c.in_ok-add_item.ensures.elsewhere c.loop-id.invariant

pub loop-node-init : goal.loop-node-init
loop-node-init g c =
    let e : c.loop-id.id ≡ c.args.first = omega arith in
    (omega arith, subst (λ (n : ℕ). IsGrouped g.N.NodeRule.rule (map g.N.NodeRule.rule c.args.nodes.items) c.args.first c.args.layers.now n c.loop-id.groups.items) e c.loop-id.invariant)

pub loop-node-preserved : goal.loop-node-preserved
loop-node-preserved g c =
    let t = YieldsList-turn (YieldsList-from_vec c.args.nodes.items c.into_iter-node-iterator.ensures.into_iter_gives.0 (c.into_iter-node-iterator.ensures.into_iter_gives.1 ∙ c.args.nodes.ok.0)) c.loop-node.yielded c.loop-node.node-iterator c.loop-node.yielded_by c.next.result c.next.new.self c.in-Some.node c.in-Some.is c.next.ensures.steps in
    let place : c.loop-node.id - c.args.first ≡ length c.loop-node.yielded = omega (arith, c.loop-node.invariant.0) in
    let behind : c.args.first ≤ c.loop-node.id = omega (arith, c.loop-node.invariant.0) in
    let ruled : slice_get (map g.N.NodeRule.rule c.args.nodes.items) (c.loop-node.id - c.args.first) ≡ Some (g.N.NodeRule.rule c.in-Some.node) =
    ap (slice_get (map g.N.NodeRule.rule c.args.nodes.items)) place ∙ slice_get-map g.N.NodeRule.rule c.args.nodes.items (length c.loop-node.yielded) ∙ ap (option_map g.N.NodeRule.rule) (at_place c.args.nodes.items (length c.loop-node.yielded) c.in-Some.node t.0 t.1) in (
      omega (arith, length_push c.loop-node.yielded c.in-Some.node, c.loop-node.invariant.0),
      item_more g.N.NodeRule.rule (map g.N.NodeRule.rule c.args.nodes.items) c.args.first c.args.layers.now c.loop-node.id c.loop-node.groups.items c.add_item-in-loop-node.new.groups.items (record { id = c.loop-node.id; node = Some c.in-Some.node }) refl (behind, ruled) c.in_ok-add_item-2.ensures.here c.in_ok-add_item-2.ensures.elsewhere c.loop-node.invariant.1,
    )

pub returns : goal.returns
returns g c =
    let t = YieldsList-end (YieldsList-from_vec c.args.nodes.items c.into_iter-node-iterator.ensures.into_iter_gives.0 (c.into_iter-node-iterator.ensures.into_iter_gives.1 ∙ c.args.nodes.ok.0)) c.loop-node.yielded c.loop-node.node-iterator c.loop-node.yielded_by c.next.result c.next.new.self c.in-None.is c.next.ensures.steps in
    let e : c.loop-node.id ≡ length c.args.layers.now = omega (arith, t.1, c.args.nodes.ok.0, c.requires.count, c.loop-node.invariant.0) in
    subst (λ (n : ℕ). IsGrouped g.N.NodeRule.rule (map g.N.NodeRule.rule c.args.nodes.items) c.args.first c.args.layers.now n c.loop-node.groups.items) e c.loop-node.invariant.1
