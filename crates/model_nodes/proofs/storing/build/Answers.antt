use Rattle.std.proofs.Common.{◌∙◌, ap, length, map, refl, subst, sym}
use mathlib.Core.List.{not-mem-nil}
use Rattle.graph_values.specs.Links.{IsModelStop}
use Rattle.graph_values.specs.WholeGraphs.{total_id}
use Rattle.inc_store.specs.Views.{graph_in, rules_in}
use Rattle.model_store.specs.Settings.{users_in}
use Rattle.store_laws.specs.ModelTouch.{many_nodes}
use Rattle.term_model.specs.declared.model.Model.{Model}
use Rattle.model_nodes.specs.Making.{ArePlaces}
use Rattle.model_nodes.proofs.Stored.{behind_stored, linked_stored, nodes_stored, own_acyclic, own_formed, own_long, rules_stored, short_stored, start_stored, whole_stored}
use Rattle.model_nodes.proofs.storing.build.Goals as goal

pub nodes_of-requires : goal.nodes_of-requires
nodes_of-requires g c κs within =
    (within, (refl, (own_formed g.setting c.args.model.now c.args.assignment.now c.requires.1.0 c.requires.1.1.0 c.requires.1.1.1.1.0, (own_acyclic g.setting c.args.model.now c.args.assignment.now c.requires.1.0 c.requires.1.1.0 c.requires.1.1.1.1.0, (own_long g.setting c.args.model.now c.args.assignment.now c.requires.1.0 c.requires.1.1.0 c.requires.1.1.1.1.0, (c.requires.1.1.1.1.1.0, c.requires.1.1.1.1.1.1))))))

pub build-requires : goal.build-requires
build-requires g c κs within = (
  within,
  (
    λ a m. absurd (not-mem-nil m),
    (
      c.requires.1.1.1.1.0,
      (
        nodes_stored g.setting c.args.model.now c.args.assignment.now c.requires.1.0 c.requires.1.1.0 c.requires.1.1.1.1.0 (map g.N.NodeRule.rule c.in_ok-made.made.nodes.items) c.in_ok-made.made.links.inputs.items c.requires.1.1.1.0 c.in_ok-made.ensures.nodes,
        (
          start_stored g.setting c.args.model.now c.args.assignment.now c.requires.1.0 c.requires.1.1.0 c.requires.1.1.1.1.0 (map g.N.NodeRule.rule c.in_ok-made.made.nodes.items) c.in_ok-made.made.links.inputs.items c.deref.result.now (c.deref.ensures.value ∙ c.in_ok-made.ensures.start),
          linked_stored g.setting c.args.model.now c.args.assignment.now c.requires.1.0 c.requires.1.1.0 c.requires.1.1.1.1.0 (map g.N.NodeRule.rule c.in_ok-made.made.nodes.items) c.in_ok-made.made.links.inputs.items c.deref.result.now (c.deref.ensures.value ∙ c.in_ok-made.ensures.start) c.in_ok-made.made.layers c.in_ok-made.ensures.linked,
        ),
      ),
    ),
  ),
)

pub returns-in-Ok-clause-whole : goal.returns-in-Ok-clause-whole
returns-in-Ok-clause-whole g c =
    whole_stored g.setting c.args.model.now c.args.assignment.now c.requires.1.0 c.requires.1.1.0 c.requires.1.1.1.1.0 (map g.N.NodeRule.rule c.in_ok-made.made.nodes.items) c.in_ok-made.made.links.inputs.items c.deref.result.now (c.deref.ensures.value ∙ c.in_ok-made.ensures.start) (graph_in g.N.NodeRule.rule c.in-Ok.store) c.in-Ok.ensures.graph c.in_ok-made.ensures.nodes

pub returns-in-Ok-clause-rules : goal.returns-in-Ok-clause-rules
returns-in-Ok-clause-rules g c =
    rules_stored g.setting c.args.model.now c.args.assignment.now c.requires.1.0 c.requires.1.1.0 c.requires.1.1.1.1.0 (map g.N.NodeRule.rule c.in_ok-made.made.nodes.items) c.in_ok-made.made.links.inputs.items c.deref.result.now (c.deref.ensures.value ∙ c.in_ok-made.ensures.start) (rules_in g.N.NodeRule.rule c.in-Ok.store) c.in-Ok.ensures.rules c.in_ok-made.ensures.nodes

pub returns-in-Ok-clause-short : goal.returns-in-Ok-clause-short
returns-in-Ok-clause-short g c =
    short_stored g.setting c.args.model.now c.args.assignment.now c.requires.1.0 c.requires.1.1.0 c.requires.1.1.1.1.0 (map g.N.NodeRule.rule c.in_ok-made.made.nodes.items) c.in_ok-made.made.links.inputs.items c.deref.result.now (c.deref.ensures.value ∙ c.in_ok-made.ensures.start) (graph_in g.N.NodeRule.rule c.in-Ok.store) (length c.deref.result.now) c.in-Ok.ensures.graph c.in_ok-made.ensures.short

pub returns-in-Err-clause-fault : goal.returns-in-Err-clause-fault
returns-in-Err-clause-fault g c =
    let same = sym c.requires.1.0 in
    let users = users_in g.setting in
    c.stop_of.ensures users g.setting.model g.setting.assignment (ap length c.deref-in-Err.ensures.value ∙ c.in_ok-made.ensures.placed ∙ ap many_nodes same)
    (subst (λ ps. ArePlaces g.setting.model ps) (sym c.deref-in-Err.ensures.value) (subst (λ (N : Model). ArePlaces N c.in_ok-made.made.places.items) same c.in_ok-made.ensures.places))
    (behind_stored g.setting c.args.model.now c.args.assignment.now c.requires.1.0 c.requires.1.1.0 c.requires.1.1.1.1.0 (map g.N.NodeRule.rule c.in_ok-made.made.nodes.items) c.in_ok-made.made.links.inputs.items c.deref.result.now (c.deref.ensures.value ∙ c.in_ok-made.ensures.start) c.in_ok-made.made.layers c.in_ok-made.ensures.linked c.in_ok-made.ensures.nodes c.in-Err.stop c.in-Err.ensures.least)
    (subst (λ t. IsModelStop users g.setting.model g.setting.assignment t c.in-Err.stop) (c.requires.1.1.1.0 ∙ ap total_id same) c.in-Err.ensures.fault)
