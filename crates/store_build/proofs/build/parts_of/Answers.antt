use Rattle.std.proofs.Common.{◌≡◌, ◌∙◌, ◌<◌, ◌≤◌, ℕ, List, Vec, map, take, length, rules, refl, sym, ap, subst, arith, All}
use Rattle.std.specs.declared.alloc.Global.{Global}
use Rattle.cbl_base.specs.NodeLaw.{Rule}
use Rattle.cbl_base.specs.declared.ids.NodeId.{NodeId}
use Rattle.store_turns.specs.declared.frame.Cone.{Cone}
use Rattle.store_turns.specs.declared.frame.Frame.{Frame}
use Rattle.store_turns.specs.Cones.{IsCone}
use Rattle.store_turns.specs.Meaning.{ids_of, uses_in}
use Rattle.store_turns.specs.Telling.{positions, places_in}
use Rattle.store_build.specs.Kept.{IsKept}
use Rattle.store_build.specs.Lists.{list_in}
use Rattle.store_build.specs.Aims.{IsLaid}
use Rattle.store_build.specs.Unused.{unused_below}
use Rattle.store_build.proofs.LaidLemmas.{linked_within, laid, aimed, if_ok, if_ok_all}
use Rattle.store_build.proofs.build.parts_of.Goals as goal

pub layers_of-requires : goal.layers_of-requires
layers_of-requires g c = record { few = omega (arith, c.requires.linked.planned, c.requires.linked.few) }

pub uses_of-requires : goal.uses_of-requires
uses_of-requires g c = record {
  few = omega (arith, ap length c.deref.ensures.value, c.requires.linked.few);
  within = subst (λ (xs : List (Vec NodeId Global)). (j : ℕ) → All (λ i. i.0 < length xs) (list_in xs j)) (sym c.deref.ensures.value) (linked_within (map g.N.NodeRule.rule c.args.nodes.items) (length c.args.start.now) c.args.links.inputs.items c.args.layers.now c.requires.linked);
  short = subst (λ (xs : List (Vec NodeId Global)). (j : ℕ) → length (list_in xs j) ≤ 4294967296) (sym c.deref.ensures.value) c.requires.linked.short;
}

pub build_over-requires : goal.build_over-requires
build_over-requires g c κs within =
    let is_laid : IsLaid (map g.N.NodeRule.rule c.args.nodes.items) (record { first = length c.args.start.now; inputs = c.args.links.inputs; layers = c.in_ok-list.list; uses = c.in_ok-uses.uses; cones = c.in_ok-cones.cones }) =
    laid (map g.N.NodeRule.rule c.args.nodes.items) (record { first = length c.args.start.now; inputs = c.args.links.inputs; layers = c.in_ok-list.list; uses = c.in_ok-uses.uses; cones = c.in_ok-cones.cones }) c.args.layers.now c.requires.linked c.in_ok-list.ensures (c.in_ok-uses.ensures.count ∙ ap length c.deref.ensures.value)
    (subst (λ (xs : List (Vec NodeId Global)). (i : ℕ) → All (λ u. u.0.0 < length xs) (list_in c.in_ok-uses.uses.items i)) c.deref.ensures.value c.in_ok-uses.ensures.users)
    (subst (λ (xs : List (Vec NodeId Global)). (i j : ℕ) → places_in j (list_in c.in_ok-uses.uses.items i) ≡ positions i (ids_of (list_in xs j))) c.deref.ensures.value c.in_ok-uses.ensures.uses)
    (subst (λ (xs : List (Vec NodeId Global)). All (IsCone (λ id. ids_of (list_in xs id)) (length xs)) c.in_ok-cones.cones.items) c.deref-2.ensures.value c.in_ok-cones.ensures.cones) in (
      search (rules, within),
      (
        search (rules, within),
        (
          refl,
          (
            is_laid,
            aimed (map g.N.NodeRule.rule c.args.nodes.items) (record { first = length c.args.start.now; inputs = c.args.links.inputs; layers = c.in_ok-list.list; uses = c.in_ok-uses.uses; cones = c.in_ok-cones.cones }) c.args.start.now is_laid refl c.requires.takes,
          ),
        ),
      ),
    )

pub returns : goal.returns
returns g c = record {
  ready = c.build_over.ensures.ready;
  rules = c.build_over.ensures.rules;
  first = if_ok c.build_over.result c.build_over.ensures.frame (λ p e. ap (λ (f : Frame). f.first) e);
  inputs = if_ok c.build_over.result c.build_over.ensures.frame (λ p e. ap (λ (f : Frame). f.inputs) e);
  layers = if_ok c.build_over.result c.build_over.ensures.frame (λ p e. ap (λ (f : Frame). f.layers.items) e ∙ c.in_ok-list.ensures);
  targets = if_ok c.build_over.result c.build_over.ensures.frame
      (λ p e. subst (λ (f : Frame). map (λ (d : Cone). d.target) f.cones.items ≡ take 64 (unused_below (uses_in f) (length f.inputs.items))) (sym e)
      (subst (λ (xs : List (Vec NodeId Global)). map (λ (d : Cone). d.target) c.in_ok-cones.cones.items ≡ take 64 (unused_below (λ id. list_in c.in_ok-uses.uses.items id) (length xs))) c.deref-2.ensures.value
      (subst (λ (us : List (Vec (NodeId × ℕ) Global)). map (λ (d : Cone). d.target) c.in_ok-cones.cones.items ≡ take 64 (unused_below (λ id. list_in us id) (length c.deref-2.result.now))) c.deref-3.ensures.value c.in_ok-cones.ensures.targets)));
  kept = if_ok_all c.build_over.result c.build_over.ensures.frame c.build_over.ensures.rules c.build_over.ensures.kept
      (λ p f r k. subst (λ (rs : List Rule). IsKept rs (map g.N.NodeRule.held p.nodes.items) p.frame p.values.items) (sym r) (subst (λ (fr : Frame). IsKept (map g.N.NodeRule.rule c.args.nodes.items) (map g.N.NodeRule.held p.nodes.items) fr p.values.items) (sym f) k));
  free = c.build_over.ensures.free;
  fault = c.build_over.ensures.fault;
}
