use Rattle.std.proofs.Common.{◌≡◌, ◌∙◌, ◌<◌, ℕ, List, length, rules, sym, subst, arith, All}
use Rattle.std.specs.List.{Contains}
use Rattle.std.proofs.lemmas.List.{length_push}
use Rattle.std.proofs.lemmas.Iterator.Adapters.{YieldsList-from_vec}
use Rattle.std.proofs.lemmas.Iterator.Consumers.{YieldsList-turn, YieldsList-end}
use Rattle.store_turns.specs.Meaning.{Each, inputs_in, layer_of}
use Rattle.store_build.specs.declared.groups.Item.{Item}
use Rattle.store_build.specs.Lists.{list_in}
use Rattle.store_build.specs.Groups.{IsItem, ids_in}
use Rattle.store_build.specs.Building.{HasCome, IsFinished}
use Rattle.store_build.proofs.ListLemmas.{in-read}
use Rattle.store_build.proofs.LayerLemmas.{inputs_came, layer_more, all_layers}
use Rattle.store_build.proofs.building.build_layers.Goals as goal

pub build_layer-requires : goal.build_layer-requires
build_layer-requires g c κs within =
    let t = YieldsList-turn (YieldsList-from_vec c.args.groups.items c.into_iter-group-iterator.ensures.into_iter_gives.0 (c.into_iter-group-iterator.ensures.into_iter_gives.1 ∙ c.args.groups.ok.0)) c.loop-group.yielded c.loop-group.group-iterator c.loop-group.yielded_by c.next.result c.next.new.self c.in-Some.group c.in-Some.is c.next.ensures.steps in
    let same : c.in-Some.group.items ≡ list_in c.args.groups.items (length c.loop-group.yielded) = in-read c.args.groups.items (length c.loop-group.yielded) c.in-Some.group t.0 t.1 in (
      search (rules, within),
      (
        search (rules, within),
        (
          c.requires.1.1.0,
          (
            c.loop-group.invariant.places,
            subst (λ (xs : List (Item g.row.N.Denot)). All (λ i. IsItem g.N.NodeRule.rule g.aim.rules c.args.frame.now.first i × (i.id < length c.args.frame.now.inputs.items) × Each (HasCome g.aim.outcome c.loop-group.building.outcomes.items) (inputs_in c.args.frame.now i.id)) xs) (sym same)
                (inputs_came g.N.NodeRule.rule g.N.NodeRule.held g.N.NodeRule.ready g.aim c.args.frame.now c.requires.1.1.1.0 c.args.groups.items c.requires.1.1.1.1 c.loop-group.building (length c.loop-group.yielded) c.loop-group.invariant.all),
          ),
        ),
      ),
    )

pub loop-group-init : goal.loop-group-init
loop-group-init g c = record {
  places = record { outcomes = omega (arith, c.in_ok-nothing.ensures.count, c.len-count.ensures, c.args.frame.now.inputs.ok.0); nodes = omega (arith, c.in_ok-nothing-2.ensures.count, c.len-count.ensures, c.args.frame.now.inputs.ok.0, c.requires.1.1.0.count) };
  all = λ k lt low. absurd (omega (arith, low));
}

pub loop-group-preserved : goal.loop-group-preserved
loop-group-preserved g c =
    let t = YieldsList-turn (YieldsList-from_vec c.args.groups.items c.into_iter-group-iterator.ensures.into_iter_gives.0 (c.into_iter-group-iterator.ensures.into_iter_gives.1 ∙ c.args.groups.ok.0)) c.loop-group.yielded c.loop-group.group-iterator c.loop-group.yielded_by c.next.result c.next.new.self c.in-Some.group c.in-Some.is c.next.ensures.steps in
    let same : c.in-Some.group.items ≡ list_in c.args.groups.items (length c.loop-group.yielded) = in-read c.args.groups.items (length c.loop-group.yielded) c.in-Some.group t.0 t.1 in
    record {
      places = c.in_ok-build_layer.ensures.places;
      all = subst (λ (n : ℕ). (k : ℕ) → k < length c.args.frame.now.inputs.items → layer_of c.args.frame.now k < n → IsFinished g.N.NodeRule.rule g.N.NodeRule.held g.N.NodeRule.ready g.aim c.args.frame.now c.build_layer.new.building k) (sym (length_push c.loop-group.yielded c.in-Some.group))
          (layer_more g.N.NodeRule.rule g.N.NodeRule.held g.N.NodeRule.ready g.aim c.args.frame.now c.requires.1.1.1.0 c.args.groups.items c.requires.1.1.1.1 c.loop-group.building c.build_layer.new.building (length c.loop-group.yielded) c.in_ok-build_layer.ensures.kept
          (subst (λ (xs : List (Item g.row.N.Denot)). (k : ℕ) → Contains (ids_in xs) k → IsFinished g.N.NodeRule.rule g.N.NodeRule.held g.N.NodeRule.ready g.aim c.args.frame.now c.build_layer.new.building k) same c.in_ok-build_layer.ensures.all) c.loop-group.invariant.all);
    }

pub returns : goal.returns
returns g c =
    let t = YieldsList-end (YieldsList-from_vec c.args.groups.items c.into_iter-group-iterator.ensures.into_iter_gives.0 (c.into_iter-group-iterator.ensures.into_iter_gives.1 ∙ c.args.groups.ok.0)) c.loop-group.yielded c.loop-group.group-iterator c.loop-group.yielded_by c.next.result c.next.new.self c.in-None.is c.next.ensures.steps in
    record {
      places = c.loop-group.invariant.places;
      all = all_layers g.N.NodeRule.rule g.N.NodeRule.held g.N.NodeRule.ready g.aim c.args.frame.now c.requires.1.1.1.0 c.args.groups.items c.requires.1.1.1.1 c.loop-group.building (length c.loop-group.yielded) (omega (arith, t.1)) c.loop-group.invariant.all;
    }
