use Rattle.std.proofs.Common.{ℕ, List, map, rules, sym, subst, inl, inr, Vec}
use Rattle.std.specs.List.{Contains}
use Rattle.std.specs.declared.alloc.Global.{Global}
use Rattle.cbl_base.specs.NodeLaw.{Rule}
use Rattle.cbl_base.specs.declared.input.Input.{Input}
use Rattle.store_build.specs.Building.{AreTasks}
use Rattle.store_build.proofs.KeepLemmas.{takes_all, settled_finished, on_ok, on_ok_both}
use Rattle.store_build.proofs.building.build_layer.Goals as goal

pub gather-requires : goal.gather-requires
gather-requires g c κs within = (
  search (rules, within),
  (
    c.requires.1.1.0,
    (
      c.requires.1.1.1.0.outcomes,
      c.requires.1.1.1.1,
    ),
  ),
)

pub reset-requires : goal.reset-requires
reset-requires g c = takes_all g.N.NodeRule.rule g.N.NodeRule.held g.N.NodeRule.ready g.aim c.args.frame.now c.requires.1.1.0.takes c.in_ok-gathered.gathered.ids.items c.in_ok-gathered.gathered.jobs.items c.in_ok-gathered.ensures.tasks

pub keep_nodes-requires : goal.keep_nodes-requires
keep_nodes-requires g c κs within = (
  search (rules, within),
  (
    c.requires.1.1.0.computed,
    (
      c.requires.1.1.0.count,
      (
        record { outcomes = c.in_ok-gathered.ensures.places; nodes = c.requires.1.1.1.0.nodes },
        (
          c.in_ok-nodes.ensures.ready,
          subst (λ (is : List ℕ). AreTasks g.aim c.args.frame.now is (map g.N.NodeRule.rule c.in_ok-nodes.nodes.items) (map g.N.NodeRule.held c.in_ok-nodes.nodes.items)) (sym c.deref.ensures.value)
              (subst (λ (rs : List Rule). AreTasks g.aim c.args.frame.now c.in_ok-gathered.gathered.ids.items rs (map g.N.NodeRule.held c.in_ok-nodes.nodes.items)) (sym c.in_ok-nodes.ensures.rules)
              (subst (λ (vs : List (List Input)). AreTasks g.aim c.args.frame.now c.in_ok-gathered.gathered.ids.items (map (λ (j : g.row.N.Denot × Vec Input Global). g.N.NodeRule.rule j.0) c.in_ok-gathered.gathered.jobs.items) vs) (sym c.in_ok-nodes.ensures.held) c.in_ok-gathered.ensures.tasks)),
        ),
      ),
    ),
  ),
)

pub returns : goal.returns
returns g c = record {
  places = c.keep_nodes.ensures.places;
  kept = on_ok c.keep_nodes.result c.keep_nodes.ensures.kept (λ kept k h. kept k (c.in_ok-gathered.ensures.kept k h.0, h.1));
  all = on_ok_both c.keep_nodes.result c.keep_nodes.ensures.kept c.keep_nodes.ensures.all (λ kept all k h. elim (c.in_ok-gathered.ensures.all k h) [
    | inl settled ↦ kept k (settled_finished g.N.NodeRule.rule g.N.NodeRule.held g.N.NodeRule.ready g.aim c.args.frame.now (record { outcomes = c.gather.new.outcomes; nodes = c.args.building.now.nodes }) k settled)
    | inr job ↦ all k (subst (λ (is : List ℕ). Contains is k) (sym c.deref.ensures.value) job)
  ]);
}
