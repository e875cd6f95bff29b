use Rattle.std.proofs.Common.{◌+◌, ◌*◌, ◌<◌, ◌≤◌, length, take, get_or, sym, ap, ◌∙◌, subst, arith}
use Rattle.std.specs.BTreeMap.{get}
use Rattle.std.specs.Ordering.{nat_cmp}
use Rattle.store_turns.specs.Cones.{has, chosen}
use Rattle.store_turns.specs.Meaning.{layer_of}
use Rattle.store_turns.specs.Waits.{waits}
use Rattle.store_turns.specs.Telling.{places_in, blocked}
use Rattle.store_turns.proofs.ConeLists.{with_one, without_one, paid, paid_all}
use Rattle.store_turns.proofs.UseLists.{blocked_more, told_elsewhere}
use Rattle.trial.specs.Overlays.{noted}
use Rattle.trial.proofs.Roots.{noted_more}
use Rattle.trial.proofs.settling.block_users.Goals as goal

pub loop-id-preserved-then-not-has : goal.loop-id-preserved-then-not-has
loop-id-preserved-then-not-has g c =
    let lt : c.loop-id.id-index < length c.args.uses.now = omega arith in
    let same = without_one (has c.args.members.now) c.args.uses.now c.loop-id.id-index (record { 0 = 0 }, 0) lt (sym c.has.ensures ∙ c.if-not-has.true) in
    record {
      here = λ j. c.loop-id.invariant.here j ∙ ap (λ us. blocked (places_in j us) (waits c.args.overlay.now.waiting (layer_of c.args.frame.now j) j)) (sym same);
      elsewhere = c.loop-id.invariant.elsewhere;
      lost = c.loop-id.invariant.lost;
      changes = c.loop-id.invariant.changes;
      roots = λ j. c.loop-id.invariant.roots j ∙ ap (λ us. noted (places_in j us) c.args.root (get nat_cmp c.args.overlay.now.roots j)) (sym same);
      steps = subst (λ us. c.loop-id.steps ≤ c.args.steps.now + 2 * length us) (sym same) c.loop-id.invariant.steps;
    }

pub returns-in_err-block-clause-steps : goal.returns-in_err-block-clause-steps
returns-in_err-block-clause-steps g c =
    let lt : c.loop-id.id-index < length c.args.uses.now = omega arith in
    paid_all (has c.args.members.now) c.args.uses.now c.loop-id.id-index (record { 0 = 0 }, 0) lt (sym c.has.ensures ∙ c.if-not-has.false) 2 c.args.steps.now c.loop-id.steps c.block.new.steps c.loop-id.invariant.steps (omega (arith, c.block.ensures.steps))

pub returns-in_err-note-clause-steps : goal.returns-in_err-note-clause-steps
returns-in_err-note-clause-steps g c =
    let lt : c.loop-id.id-index < length c.args.uses.now = omega arith in
    paid_all (has c.args.members.now) c.args.uses.now c.loop-id.id-index (record { 0 = 0 }, 0) lt (sym c.has.ensures ∙ c.if-not-has.false) 2 c.args.steps.now c.loop-id.steps c.note.new.steps c.loop-id.invariant.steps (omega (arith, c.block.ensures.steps, c.note.ensures.steps))

pub loop-id-preserved : goal.loop-id-preserved
loop-id-preserved g c =
    let lt : c.loop-id.id-index < length c.args.uses.now = omega arith in
    let one = with_one (has c.args.members.now) c.args.uses.now c.loop-id.id-index (record { 0 = 0 }, 0) lt (sym c.has.ensures ∙ c.if-not-has.false) in
    record {
      here = λ j. rw c.in_ok-note.ensures.waiting (blocked_more (layer_of c.args.frame.now) (chosen (has c.args.members.now) (take c.loop-id.id-index c.args.uses.now)) (get_or c.args.uses.now c.loop-id.id-index (record { 0 = 0 }, 0)) (waits c.args.overlay.now.waiting) (waits c.loop-id.overlay.waiting) (waits c.block.new.self) (rw (c.turn_of.ensures.layer, c.turn_of.ensures.id) at c.in_ok-block.ensures.waiting.elsewhere) (rw (c.turn_of.ensures.layer, c.turn_of.ensures.id) at c.in_ok-block.ensures.waiting.here) c.loop-id.invariant.here j ∙ ap (λ us. blocked (places_in j us) (waits c.args.overlay.now.waiting (layer_of c.args.frame.now j) j)) (sym one));
      elsewhere = rw c.in_ok-note.ensures.waiting (told_elsewhere (layer_of c.args.frame.now) (chosen (has c.args.members.now) (take c.loop-id.id-index c.args.uses.now)) (get_or c.args.uses.now c.loop-id.id-index (record { 0 = 0 }, 0)) (waits c.args.overlay.now.waiting) (waits c.loop-id.overlay.waiting) (waits c.block.new.self) (rw (c.turn_of.ensures.layer, c.turn_of.ensures.id) at c.in_ok-block.ensures.waiting.elsewhere) c.loop-id.invariant.elsewhere);
      lost = c.in_ok-note.ensures.lost ∙ c.loop-id.invariant.lost;
      changes = c.in_ok-note.ensures.changes ∙ c.loop-id.invariant.changes;
      roots = λ j. noted_more (chosen (has c.args.members.now) (take c.loop-id.id-index c.args.uses.now)) (get_or c.args.uses.now c.loop-id.id-index (record { 0 = 0 }, 0)) c.args.root (get nat_cmp c.args.overlay.now.roots) (get nat_cmp c.loop-id.overlay.roots) (get nat_cmp c.note.new.self.roots)
          c.in_ok-note.ensures.root.here c.in_ok-note.ensures.root.elsewhere c.loop-id.invariant.roots j ∙ ap (λ us. noted (places_in j us) c.args.root (get nat_cmp c.args.overlay.now.roots j)) (sym one);
      steps = paid (has c.args.members.now) c.args.uses.now c.loop-id.id-index (record { 0 = 0 }, 0) lt (sym c.has.ensures ∙ c.if-not-has.false) 2 c.args.steps.now c.loop-id.steps c.note.new.steps c.loop-id.invariant.steps (omega (arith, c.block.ensures.steps, c.note.ensures.steps));
    }
