use Rattle.std.proofs.Common.{◌<◌, length, sym, subst, ◌∙◌, arith, to_z, of_z}
use Rattle.std.specs.Int.{w128}
use Rattle.std.proofs.lemmas.Int.{to_z-of_z}
use Rattle.diff_load_seq.specs.Levels.{IsRaisable, level_at}
use Rattle.diff_load_seq.proofs.OverLemmas.{between_start, between_within, between_still, between_next}
use Rattle.diff_load_seq.proofs.levels.Levels.raise_between.Goals as goal

pub loop-place-init : goal.loop-place-init
loop-place-init c = record {
  each = sym (between_start c.args.first (to_z w128 (of_z w128 c.args.by)) c.args.self.now.each.items);
  kept = c.requires.kept;
  from = omega arith;
  to = c.requires.order;
}

pub raise-requires-clause-within : goal.raise-requires-clause-within
raise-requires-clause-within c =
    between_within c.args.first (to_z w128 (of_z w128 c.args.by)) c.args.self.now.each.items c.loop-place.self.each.items c.loop-place.place
    (omega (arith, c.loop-place-test.true, c.requires.within)) c.loop-place.invariant.each

pub raise-requires-clause-room : goal.raise-requires-clause-room
raise-requires-clause-room c =
    let by = to_z w128 (of_z w128 c.args.by) in
    let levels = c.args.self.now.each.items in
    let within : c.loop-place.place < length c.args.self.now.each.items = omega (arith, c.loop-place-test.true, c.requires.within) in
    subst (λ level. IsRaisable level (to_z w128 (of_z w128 c.args.by)))
    (sym (between_still c.args.first by levels c.loop-place.self.each.items c.loop-place.place within c.loop-place.invariant.each))
    (subst (IsRaisable (level_at c.args.self.now.each.items c.loop-place.place)) (sym (to_z-of_z w128 c.args.by c.ranges.by)) (c.requires.room c.loop-place.place c.loop-place-test.true))

pub loop-place-preserved : goal.loop-place-preserved
loop-place-preserved c =
    let by = to_z w128 (of_z w128 c.args.by) in
    let levels = c.args.self.now.each.items in
    let within : c.loop-place.place < length c.args.self.now.each.items = omega (arith, c.loop-place-test.true, c.requires.within) in
    record {
      each = c.raise.ensures.each ∙ between_next c.args.first by levels c.loop-place.self.each.items c.loop-place.place within c.loop-place.invariant.each c.loop-place.invariant.from;
      kept = c.raise.ensures.kept;
      from = omega (arith, c.loop-place.invariant.from);
      to = omega (arith, c.loop-place-test.true);
    }
