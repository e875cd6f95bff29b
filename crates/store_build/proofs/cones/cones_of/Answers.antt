use Rattle.std.proofs.Common.{◌≡◌, ◌<◌, ◌≤◌, ◌-◌, suc, length, map, rules, arith}
use Rattle.store_turns.specs.declared.frame.Cone.{Cone}
use Rattle.store_turns.specs.Meaning.{is_empty}
use Rattle.store_build.specs.Lists.{list_in}
use Rattle.store_build.specs.Unused.{unused_below}
use Rattle.std.proofs.lemmas.List.{length-map}
use Rattle.store_build.proofs.UnusedLists.{count_more, targets_more, targets_full, targets_end}
use Rattle.store_build.proofs.cones.cones_of.Goals as goal

pub returns-then-len-eq-MOST_CONES-clause-targets : goal.returns-then-len-eq-MOST_CONES-clause-targets
returns-then-len-eq-MOST_CONES-clause-targets c =
    let uses = c.args.uses.now in
    let cones = c.loop-id.cones.items in
    let full : length cones ≡ 64 = search rules in
    let size : length (map (λ (d : Cone). d.target) cones) ≡ 64 = omega (arith, full, length-map cones (λ (d : Cone). d.target)) in
    targets_full (λ j. list_in uses j) (unused_below (λ j. list_in uses j) (length c.args.inputs.now)) c.loop-id.id 64 (map (λ (d : Cone). d.target) cones) size c.loop-id.invariant.targets

pub loop-id-preserved : goal.loop-id-preserved
loop-id-preserved c =
    let uses = c.args.uses.now in
    let olds = c.loop-id.cones.items in
    let news = c.add_cone.new.cones.items in
    let id = c.loop-id.id - 1 in
    let some : length olds < 64 = omega (arith, c.loop-id.invariant.most) in
    let next : c.loop-id.id ≡ suc id = omega arith in
    record {
      cones = c.in_ok-add_cone.ensures.cones;
      most = omega (arith, some, count_more (is_empty (list_in uses id)) olds news id c.in_ok-add_cone.ensures.targets);
      within = omega (arith, c.loop-id.invariant.within);
      targets = targets_more (λ j. list_in uses j) (unused_below (λ j. list_in uses j) (length c.args.inputs.now)) id c.loop-id.id (map (λ (d : Cone). d.target) olds) (map (λ (d : Cone). d.target) news) next c.in_ok-add_cone.ensures.targets c.loop-id.invariant.targets;
    }

pub returns-clause-targets : goal.returns-clause-targets
returns-clause-targets c =
    let uses = c.args.uses.now in
    let cones = c.loop-id.cones.items in
    let none : c.loop-id.id ≡ 0 = omega arith in
    let size : length (map (λ (d : Cone). d.target) cones) ≤ 64 = omega (arith, c.loop-id.invariant.most, length-map cones (λ (d : Cone). d.target)) in
    targets_end (λ j. list_in uses j) (unused_below (λ j. list_in uses j) (length c.args.inputs.now)) c.loop-id.id 64 (map (λ (d : Cone). d.target) cones) none size c.loop-id.invariant.targets
