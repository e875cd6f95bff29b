use Rattle.std.proofs.Common.{◌≡◌, ◌∙◌, ◌<◌, ℕ, List, map, length, take, get_or, refl, sym, ap, subst, arith}
use Rattle.std.specs.List.{Contains}
use Rattle.std.proofs.Math.Seq.{take-length}
use Rattle.std.proofs.lemmas.List.{length-map, length_push}
use Rattle.std.proofs.lemmas.Iterator.Adapters.{YieldsList-from_vec}
use Rattle.std.proofs.lemmas.Iterator.Consumers.{YieldsList-turn, YieldsList-end}
use Rattle.store_turns.specs.Meaning.{outcome_of}
use Rattle.store_build.specs.Building.{IsTask}
use Rattle.store_build.proofs.KeepLemmas.{tasks_count, task_of, kept_places, kept_here, kept_others, kept_more}
use Rattle.store_build.proofs.building.keep_nodes.Goals as goal

pub offset_bounds-ids-place : goal.offset_bounds-ids-place
offset_bounds-ids-place g c =
    let t = YieldsList-turn (YieldsList-from_vec c.args.nodes.items c.into_iter-node-iterator.ensures.into_iter_gives.0 (c.into_iter-node-iterator.ensures.into_iter_gives.1 ∙ c.args.nodes.ok.0)) c.loop-node.yielded c.loop-node.node-iterator c.loop-node.yielded_by c.next.result c.next.new.self c.in-Some.node c.in-Some.is c.next.ensures.steps in
    let lt : c.loop-node.place < length c.args.ids.now = omega (arith, t.0, tasks_count g.aim c.args.frame.now c.args.ids.now (map g.N.NodeRule.rule c.args.nodes.items) (map g.N.NodeRule.held c.args.nodes.items) c.requires.1.1.1.1.1, length-map c.args.nodes.items g.N.NodeRule.rule, c.loop-node.invariant.place) in
    omega arith

pub bounds-ids-place : goal.bounds-ids-place
bounds-ids-place g c =
    let t = YieldsList-turn (YieldsList-from_vec c.args.nodes.items c.into_iter-node-iterator.ensures.into_iter_gives.0 (c.into_iter-node-iterator.ensures.into_iter_gives.1 ∙ c.args.nodes.ok.0)) c.loop-node.yielded c.loop-node.node-iterator c.loop-node.yielded_by c.next.result c.next.new.self c.in-Some.node c.in-Some.is c.next.ensures.steps in
    omega (arith, t.0, tasks_count g.aim c.args.frame.now c.args.ids.now (map g.N.NodeRule.rule c.args.nodes.items) (map g.N.NodeRule.held c.args.nodes.items) c.requires.1.1.1.1.1, length-map c.args.nodes.items g.N.NodeRule.rule, c.loop-node.invariant.place)

pub loop-node-init : goal.loop-node-init
loop-node-init g c = record { place = refl; places = c.requires.1.1.1.0; kept = λ k h. h; all = λ k h. let lt = h.1 in absurd (omega (arith, lt)) }

pub keep_node-requires : goal.keep_node-requires
keep_node-requires g c =
    let t = YieldsList-turn (YieldsList-from_vec c.args.nodes.items c.into_iter-node-iterator.ensures.into_iter_gives.0 (c.into_iter-node-iterator.ensures.into_iter_gives.1 ∙ c.args.nodes.ok.0)) c.loop-node.yielded c.loop-node.node-iterator c.loop-node.yielded_by c.next.result c.next.new.self c.in-Some.node c.in-Some.is c.next.ensures.steps in
    let task : IsTask g.aim c.args.frame.now (get_or c.args.ids.now c.loop-node.place 0) (g.N.NodeRule.rule c.in-Some.node) (g.N.NodeRule.held c.in-Some.node) =
    subst (λ (k : ℕ). IsTask g.aim c.args.frame.now (get_or c.args.ids.now k 0) (g.N.NodeRule.rule c.in-Some.node) (g.N.NodeRule.held c.in-Some.node)) (sym c.loop-node.invariant.place)
    (task_of g.N.NodeRule.rule g.N.NodeRule.held g.N.NodeRule.ready g.aim c.args.frame.now c.args.ids.now c.args.nodes.items (length c.loop-node.yielded) c.in-Some.node c.requires.1.1.1.1.1 t.0 (sym t.1)) in
    let is_ready : g.N.NodeRule.ready c.in-Some.node = subst (λ (n : g.row.N.Denot). g.N.NodeRule.ready n) (sym t.1) (c.requires.1.1.1.1.0 (length c.loop-node.yielded) c.in-Some.node t.0) in record {
      ready = is_ready;
      within = omega (arith, task.within, c.loop-node.invariant.places.outcomes);
      behind = task.behind;
      place = omega (arith, task.within, task.behind, c.loop-node.invariant.places.nodes, c.requires.1.1.0);
    }

pub loop-node-preserved : goal.loop-node-preserved
loop-node-preserved g c =
    let t = YieldsList-turn (YieldsList-from_vec c.args.nodes.items c.into_iter-node-iterator.ensures.into_iter_gives.0 (c.into_iter-node-iterator.ensures.into_iter_gives.1 ∙ c.args.nodes.ok.0)) c.loop-node.yielded c.loop-node.node-iterator c.loop-node.yielded_by c.next.result c.next.new.self c.in-Some.node c.in-Some.is c.next.ensures.steps in
    let task : IsTask g.aim c.args.frame.now (get_or c.args.ids.now c.loop-node.place 0) (g.N.NodeRule.rule c.in-Some.node) (g.N.NodeRule.held c.in-Some.node) =
    subst (λ (k : ℕ). IsTask g.aim c.args.frame.now (get_or c.args.ids.now k 0) (g.N.NodeRule.rule c.in-Some.node) (g.N.NodeRule.held c.in-Some.node)) (sym c.loop-node.invariant.place)
    (task_of g.N.NodeRule.rule g.N.NodeRule.held g.N.NodeRule.ready g.aim c.args.frame.now c.args.ids.now c.args.nodes.items (length c.loop-node.yielded) c.in-Some.node c.requires.1.1.1.1.1 t.0 (sym t.1)) in
    let is_ready : g.N.NodeRule.ready c.in-Some.node = subst (λ (n : g.row.N.Denot). g.N.NodeRule.ready n) (sym t.1) (c.requires.1.1.1.1.0 (length c.loop-node.yielded) c.in-Some.node t.0) in
    let lt : c.loop-node.place < length c.args.ids.now = omega (arith, t.0, tasks_count g.aim c.args.frame.now c.args.ids.now (map g.N.NodeRule.rule c.args.nodes.items) (map g.N.NodeRule.held c.args.nodes.items) c.requires.1.1.1.1.1, length-map c.args.nodes.items g.N.NodeRule.rule, c.loop-node.invariant.place) in
    record {
      place = omega (arith, length_push c.loop-node.yielded c.in-Some.node, c.loop-node.invariant.place);
      places = kept_places g.N.NodeRule.rule g.N.NodeRule.held g.N.NodeRule.ready g.aim c.args.frame.now c.requires.1.0 c.requires.1.1.0 c.loop-node.building c.keep_node.new.building (get_or c.args.ids.now c.loop-node.place 0) c.in-Some.node (outcome_of ((g.N.NodeRule.rule c.in-Some.node).value (g.N.NodeRule.held c.in-Some.node))) c.loop-node.invariant.places task is_ready refl c.in_ok-keep_node.ensures.outcomes c.in_ok-keep_node.ensures.nodes;
      kept = λ k h. kept_others g.N.NodeRule.rule g.N.NodeRule.held g.N.NodeRule.ready g.aim c.args.frame.now c.requires.1.0 c.requires.1.1.0 c.loop-node.building c.keep_node.new.building (get_or c.args.ids.now c.loop-node.place 0) c.in-Some.node (outcome_of ((g.N.NodeRule.rule c.in-Some.node).value (g.N.NodeRule.held c.in-Some.node))) c.loop-node.invariant.places task is_ready refl c.in_ok-keep_node.ensures.outcomes c.in_ok-keep_node.ensures.nodes k (c.loop-node.invariant.kept k h);
      all = kept_more g.N.NodeRule.rule g.N.NodeRule.held g.N.NodeRule.ready g.aim c.args.frame.now c.loop-node.building c.keep_node.new.building c.args.ids.now c.loop-node.place lt
          (kept_others g.N.NodeRule.rule g.N.NodeRule.held g.N.NodeRule.ready g.aim c.args.frame.now c.requires.1.0 c.requires.1.1.0 c.loop-node.building c.keep_node.new.building (get_or c.args.ids.now c.loop-node.place 0) c.in-Some.node (outcome_of ((g.N.NodeRule.rule c.in-Some.node).value (g.N.NodeRule.held c.in-Some.node))) c.loop-node.invariant.places task is_ready refl c.in_ok-keep_node.ensures.outcomes c.in_ok-keep_node.ensures.nodes)
          (kept_here g.N.NodeRule.rule g.N.NodeRule.held g.N.NodeRule.ready g.aim c.args.frame.now c.requires.1.0 c.requires.1.1.0 c.loop-node.building c.keep_node.new.building (get_or c.args.ids.now c.loop-node.place 0) c.in-Some.node (outcome_of ((g.N.NodeRule.rule c.in-Some.node).value (g.N.NodeRule.held c.in-Some.node))) c.loop-node.invariant.places task is_ready refl c.in_ok-keep_node.ensures.outcomes c.in_ok-keep_node.ensures.nodes) c.loop-node.invariant.all;
    }

pub returns : goal.returns
returns g c =
    let t = YieldsList-end (YieldsList-from_vec c.args.nodes.items c.into_iter-node-iterator.ensures.into_iter_gives.0 (c.into_iter-node-iterator.ensures.into_iter_gives.1 ∙ c.args.nodes.ok.0)) c.loop-node.yielded c.loop-node.node-iterator c.loop-node.yielded_by c.next.result c.next.new.self c.in-None.is c.next.ensures.steps in
    let whole : c.loop-node.place ≡ length c.args.ids.now = omega (arith, t.1, tasks_count g.aim c.args.frame.now c.args.ids.now (map g.N.NodeRule.rule c.args.nodes.items) (map g.N.NodeRule.held c.args.nodes.items) c.requires.1.1.1.1.1, length-map c.args.nodes.items g.N.NodeRule.rule, c.loop-node.invariant.place) in
    record {
      places = c.loop-node.invariant.places;
      kept = c.loop-node.invariant.kept;
      all = λ k h. c.loop-node.invariant.all k (subst (λ (is : List ℕ). Contains is k) (sym (ap (λ (n : ℕ). take n c.args.ids.now) whole ∙ take-length c.args.ids.now)) h);
    }
