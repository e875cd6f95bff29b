use Rattle.std.proofs.Common.{◌<◌, length, sym, subst, ap, ◌∙◌, arith, to_z, of_z, set}
use Rattle.std.specs.Int.{w128}
use Rattle.std.proofs.lemmas.Int.{to_z-of_z}
use Rattle.diff_load_seq.specs.Levels.{IsRaisable, level_at, raised, flat}
use Rattle.diff_load_seq.specs.LevelsOver.{shown, level_over}
use Rattle.diff_load_seq.proofs.OverLemmas.{between_start, between_still, between_next, length_shown}
use Rattle.diff_load_seq.proofs.PlaceLists.{at_place}
use Rattle.diff_load_seq.proofs.levels_over.LevelsOver.raise_between.Goals as goal

pub loop-place-init : goal.loop-place-init
loop-place-init c = record {
  shown = sym (between_start c.args.first (to_z w128 (of_z w128 c.args.by)) (shown c.args.levels.now.each.items c.args.self.now));
  kept = c.requires.kept;
  from = omega arith;
  to = c.requires.order;
}

pub raise-requires-clause-room : goal.raise-requires-clause-room
raise-requires-clause-room c =
    let by = to_z w128 (of_z w128 c.args.by) in
    let levels = c.args.levels.now.each.items in
    let first = shown levels c.args.self.now in
    let within : c.loop-place.place < length c.args.levels.now.each.items = omega (arith, c.loop-place-test.true, c.requires.within) in
    let inside : c.loop-place.place < length (shown c.args.levels.now.each.items c.args.self.now) = omega (arith, within, length_shown levels c.args.self.now) in
    subst (λ level. IsRaisable level (to_z w128 (of_z w128 c.args.by)))
    (sym (sym (at_place flat (length levels) (level_over levels c.loop-place.self) c.loop-place.place within)
    ∙ between_still c.args.first by first (shown levels c.loop-place.self) c.loop-place.place inside c.loop-place.invariant.shown))
    (subst (IsRaisable (level_at (shown c.args.levels.now.each.items c.args.self.now) c.loop-place.place)) (sym (to_z-of_z w128 c.args.by c.ranges.by)) (c.requires.room c.loop-place.place c.loop-place-test.true))

pub loop-place-preserved : goal.loop-place-preserved
loop-place-preserved c =
    let by = to_z w128 (of_z w128 c.args.by) in
    let levels = c.args.levels.now.each.items in
    let first = shown levels c.args.self.now in
    let within : c.loop-place.place < length c.args.levels.now.each.items = omega (arith, c.loop-place-test.true, c.requires.within) in
    let inside : c.loop-place.place < length (shown c.args.levels.now.each.items c.args.self.now) = omega (arith, within, length_shown levels c.args.self.now) in
    record {
      shown = c.in_ok-raise.ensures.shown
          ∙ ap (λ level. set (shown c.args.levels.now.each.items c.loop-place.self) c.loop-place.place (raised (to_z w128 (of_z w128 c.args.by)) level))
          (sym (at_place flat (length levels) (level_over levels c.loop-place.self) c.loop-place.place within))
          ∙ between_next c.args.first by first (shown levels c.loop-place.self) c.loop-place.place inside c.loop-place.invariant.shown c.loop-place.invariant.from;
      kept = c.in_ok-raise.ensures.kept;
      from = omega (arith, c.loop-place.invariant.from);
      to = omega (arith, c.loop-place-test.true);
    }
