use Rattle.std.specs.declared.alloc.Global.{Global}
use Rattle.std.proofs.Common.{Vec, List, length, map, All, IsTrue, refl, sym, subst}
use Rattle.std.proofs.lemmas.List.Elements.{All-push}
use Rattle.store_turns.specs.declared.frame.Cone.{Cone}
use Rattle.store_turns.specs.Cones.{IsCone, has_cone}
use Rattle.store_turns.specs.Meaning.{ids_of, inputs_in}
use Rattle.store_build.specs.Lists.{list_in}
use Rattle.cbl_base.specs.declared.ids.NodeId.{NodeId}
use Rattle.inc_store.proofs.Keeping.{kept_with, last_there, still_there}
use Rattle.inc_store.proofs.store.Store.keep.Goals as goal

pub returns-clause-usable : goal.returns-clause-usable
returns-clause-usable g c =
    let s = c.args.self.now in
    let frame = s.frame in
    let cone : IsCone (inputs_in frame) (length frame.inputs.items) c.in_ok-cone.cone = subst (λ (v : List (Vec NodeId Global)). IsCone (λ id. ids_of (list_in v id)) (length v) c.in_ok-cone.cone) c.as_slice.ensures.value c.in_ok-cone.ensures.cone in
    let all = subst (λ (cs : List Cone). All (IsCone (inputs_in frame) (length frame.inputs.items)) cs) (sym c.in_ok-push.ensures.items)
    (All-push (IsCone (inputs_in frame) (length frame.inputs.items)) frame.cones.items c.in_ok-cone.cone c.requires.usable.2.framed.cones cone) in
    (c.requires.usable.0, c.requires.usable.1, kept_with (map g.N.NodeRule.rule s.nodes.items) (map g.N.NodeRule.held s.nodes.items) frame s.cells c.requires.usable.2 c.push.new.self all)

pub returns-clause-same : goal.returns-clause-same
returns-clause-same g c =
    let olds = c.args.self.now.frame.cones.items in
    record {
      usable = refl;
      nodes = refl;
      cells = refl;
      frame = refl;
      cones = λ target e. subst (λ (cs : List Cone). IsTrue (has_cone cs target)) (sym c.in_ok-push.ensures.items) (still_there olds c.in_ok-cone.cone target e);
    }

pub returns-clause-kept : goal.returns-clause-kept
returns-clause-kept g c = subst (λ (cs : List Cone). IsTrue (has_cone cs c.args.target.0)) (sym c.in_ok-push.ensures.items) (last_there c.args.self.now.frame.cones.items c.in_ok-cone.cone c.args.target.0 c.in_ok-cone.ensures.target)
