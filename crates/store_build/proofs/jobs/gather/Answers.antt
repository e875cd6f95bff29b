use Rattle.std.proofs.Common.{◌≡◌, ◌∙◌, ◌<◌, ℕ, pos, false, List, [], ◌∷◌, length, map, get_or, sym, ap, subst, arith, All, Vec}
use Rattle.std.specs.declared.alloc.Global.{Global}
use Rattle.std.proofs.lemmas.Iterator.Adapters.{YieldsList-from_vec}
use Rattle.std.proofs.lemmas.Iterator.Consumers.{YieldsList-turn, YieldsList-end}
use Rattle.cbl_base.specs.declared.ids.NodeId.{NodeId}
use Rattle.cbl_base.specs.declared.input.Input.{Input}
use Rattle.store_turns.specs.Meaning.{Each, ids_of, inputs_in, is_empty}
use Rattle.store_turns.proofs.Unique.{each_from}
use Rattle.store_build.specs.declared.groups.Item.{Item}
use Rattle.store_build.specs.Lists.{list_in}
use Rattle.store_build.specs.Groups.{IsItem}
use Rattle.store_build.specs.Building.{HasCome, ItemTaken}
use Rattle.store_build.proofs.ListLemmas.{in-read}
use Rattle.store_build.proofs.GatherLemmas.{no_tasks, node_or_cell, before_first, item_taken, all_more, all_given}
use Rattle.store_build.proofs.jobs.gather.Goals as goal

pub loop-item-init : goal.loop-item-init
loop-item-init g c = record {
  places = c.requires.1.1.0;
  kept = λ k h. h;
  tasks = no_tasks g.aim c.args.frame.now c.new.result.items (map (λ (j : g.row.N.Denot × Vec Input Global). g.N.NodeRule.rule j.0) c.new-2.result.items) (map (λ (j : g.row.N.Denot × Vec Input Global). j.1.items) c.new-2.result.items) c.new.ensures.items
      (ap (map (λ (j : g.row.N.Denot × Vec Input Global). g.N.NodeRule.rule j.0)) c.new-2.ensures.items) (ap (map (λ (j : g.row.N.Denot × Vec Input Global). j.1.items)) c.new-2.ensures.items);
  all = λ k h. let lt = h.1 in absurd (omega (arith, lt));
}

pub take_item-requires : goal.take_item-requires
take_item-requires g c =
    let t = YieldsList-turn (YieldsList-from_vec c.args.group.items c.into_iter-item-iterator.ensures.into_iter_gives.0 (c.into_iter-item-iterator.ensures.into_iter_gives.1 ∙ c.args.group.ok.0)) c.loop-item.yielded c.loop-item.item-iterator c.loop-item.yielded_by c.next.result c.next.new.self c.in-Some.item c.in-Some.is c.next.ensures.steps in
    let fact : IsItem g.N.NodeRule.rule g.aim.rules c.args.frame.now.first c.in-Some.item × (c.in-Some.item.id < length c.args.frame.now.inputs.items) × Each (HasCome g.aim.outcome c.args.outcomes.now.items) (inputs_in c.args.frame.now c.in-Some.item.id) =
    subst (λ (i : Item g.row.N.Denot). IsItem g.N.NodeRule.rule g.aim.rules c.args.frame.now.first i × (i.id < length c.args.frame.now.inputs.items) × Each (HasCome g.aim.outcome c.args.outcomes.now.items) (inputs_in c.args.frame.now i.id)) (sym t.1) (c.requires.1.1.1 (length c.loop-item.yielded) c.in-Some.item t.0) in
    let same : c.as_slice-inputs.result.now ≡ list_in c.args.frame.now.inputs.items c.in-Some.item.id = c.as_slice-inputs.ensures.value ∙ in-read c.args.frame.now.inputs.items c.in-Some.item.id c.index.result.now fact.1 c.index.ensures in
    let within = subst (λ (is : List NodeId). All (λ i. i.0 < length c.args.frame.now.inputs.items) is) (sym same) (c.requires.1.0.within c.in-Some.item.id) in record {
      within = omega (arith, fact.1, c.loop-item.invariant.places);
      inputs = λ k d l. omega (arith, within k d l, c.loop-item.invariant.places);
      one = λ low f. (subst (λ (is : List ℕ). is_empty is ≡ false → (i : ℕ) × (is ≡ i ∷ [])) (sym (ap ids_of same)) (c.requires.1.0.defined c.in-Some.item.id (before_first c.in-Some.item.id c.args.frame.now.first (omega (arith, low, c.requires.1.0.cells))))) f;
      cell = node_or_cell g.N.NodeRule.rule g.aim.rules c.args.frame.now.first (length c.args.start.now) c.in-Some.item.id c.in-Some.item.node fact.0 c.requires.1.0.cells;
    }

pub loop-item-preserved : goal.loop-item-preserved
loop-item-preserved g c =
    let t = YieldsList-turn (YieldsList-from_vec c.args.group.items c.into_iter-item-iterator.ensures.into_iter_gives.0 (c.into_iter-item-iterator.ensures.into_iter_gives.1 ∙ c.args.group.ok.0)) c.loop-item.yielded c.loop-item.item-iterator c.loop-item.yielded_by c.next.result c.next.new.self c.in-Some.item c.in-Some.is c.next.ensures.steps in
    let fact : IsItem g.N.NodeRule.rule g.aim.rules c.args.frame.now.first c.in-Some.item × (c.in-Some.item.id < length c.args.frame.now.inputs.items) × Each (HasCome g.aim.outcome c.args.outcomes.now.items) (inputs_in c.args.frame.now c.in-Some.item.id) =
    subst (λ (i : Item g.row.N.Denot). IsItem g.N.NodeRule.rule g.aim.rules c.args.frame.now.first i × (i.id < length c.args.frame.now.inputs.items) × Each (HasCome g.aim.outcome c.args.outcomes.now.items) (inputs_in c.args.frame.now i.id)) (sym t.1) (c.requires.1.1.1 (length c.loop-item.yielded) c.in-Some.item t.0) in
    let same : c.as_slice-inputs.result.now ≡ list_in c.args.frame.now.inputs.items c.in-Some.item.id = c.as_slice-inputs.ensures.value ∙ in-read c.args.frame.now.inputs.items c.in-Some.item.id c.index.result.now fact.1 c.index.ensures in
    let taken = subst (λ (is : List ℕ). ItemTaken g.N.NodeRule.rule is (get_or c.args.start.now c.in-Some.item.id (pos 0)) c.in-Some.item.id c.in-Some.item.node c.loop-item.outcomes.items c.take_item.new.outcomes.items c.loop-item.jobs c.take_item.new.jobs) (ap ids_of same) c.in_ok-take_item.ensures in
    let each = each_from (HasCome g.aim.outcome c.args.outcomes.now.items) (HasCome g.aim.outcome c.loop-item.outcomes.items) (inputs_in c.args.frame.now c.in-Some.item.id) c.loop-item.invariant.kept fact.2 in
    let s = item_taken g.aim c.args.frame.now c.args.start.now c.requires.1.0 g.N.NodeRule.rule c.loop-item.outcomes.items c.take_item.new.outcomes.items c.loop-item.jobs c.take_item.new.jobs c.in-Some.item.id c.loop-item.invariant.places fact.1 each c.loop-item.invariant.tasks c.in-Some.item.node fact.0 taken in
    record {
      places = s.places ∙ c.loop-item.invariant.places;
      kept = λ k h. s.kept k (c.loop-item.invariant.kept k h);
      tasks = s.tasks;
      all = all_more g.aim c.args.frame.now c.args.start.now c.requires.1.0 g.N.NodeRule.rule c.loop-item.outcomes.items c.take_item.new.outcomes.items c.loop-item.jobs c.take_item.new.jobs c.loop-item.yielded c.in-Some.item s c.loop-item.invariant.all;
    }

pub returns-clause-all : goal.returns-clause-all
returns-clause-all g c =
    let t = YieldsList-end (YieldsList-from_vec c.args.group.items c.into_iter-item-iterator.ensures.into_iter_gives.0 (c.into_iter-item-iterator.ensures.into_iter_gives.1 ∙ c.args.group.ok.0)) c.loop-item.yielded c.loop-item.item-iterator c.loop-item.yielded_by c.next.result c.next.new.self c.in-None.is c.next.ensures.steps in
    all_given g.aim c.args.frame.now g.N.NodeRule.rule c.loop-item.outcomes.items c.loop-item.jobs c.loop-item.yielded c.args.group.items t.0 c.loop-item.invariant.all
