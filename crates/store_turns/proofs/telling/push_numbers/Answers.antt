use Rattle.std.proofs.Common.{◌+◌, ◌*◌, ◌<◌, ◌≤◌, length, take, get_or, sym, ap, ◌∙◌, subst, arith, map}
use Rattle.cbl_base.specs.declared.input.Input.TheVariants.{Int}
use Rattle.store_turns.specs.Waits.{waits}
use Rattle.store_turns.specs.Cones.{has, chosen}
use Rattle.store_turns.specs.Telling.{change_to, layer_in, places_in, pushed}
use Rattle.store_turns.proofs.ConeLists.{with_one, without_one, paid, paid_all}
use Rattle.store_turns.proofs.UseLists.{pushed_more, told_elsewhere}
use Rattle.store_turns.proofs.telling.push_numbers.Goals as goal

pub loop-id-preserved-then-not-has : goal.loop-id-preserved-then-not-has
loop-id-preserved-then-not-has g c =
    let lt : c.loop-id.id-index < length c.args.uses.now = omega arith in
    let same = without_one (has c.args.members.now) c.args.uses.now c.loop-id.id-index (record { 0 = 0 }, 0) lt (sym c.has.ensures ∙ c.if-not-has.true) in
    record {
      here = λ j. c.loop-id.invariant.here j ∙ ap (λ us. pushed (map (λ p. change_to p (Int c.args.old.now) (Int c.args.new.now)) (places_in j us)) (waits c.args.waiting.now (layer_in c.args.layers.now j) j)) (sym same);
      elsewhere = c.loop-id.invariant.elsewhere;
      steps = subst (λ us. c.loop-id.steps ≤ c.args.steps.now + 2 * length us) (sym same) c.loop-id.invariant.steps;
    }

pub returns-in_err-push_number-clause-steps : goal.returns-in_err-push_number-clause-steps
returns-in_err-push_number-clause-steps g c =
    let lt : c.loop-id.id-index < length c.args.uses.now = omega arith in
    paid_all (has c.args.members.now) c.args.uses.now c.loop-id.id-index (record { 0 = 0 }, 0) lt (sym c.has.ensures ∙ c.if-not-has.false) 2 c.args.steps.now c.loop-id.steps c.push_number.new.steps c.loop-id.invariant.steps (omega (arith, c.push_number.ensures.steps))

pub loop-id-preserved : goal.loop-id-preserved
loop-id-preserved g c =
    let lt : c.loop-id.id-index < length c.args.uses.now = omega arith in
    let one = with_one (has c.args.members.now) c.args.uses.now c.loop-id.id-index (record { 0 = 0 }, 0) lt (sym c.has.ensures ∙ c.if-not-has.false) in
    record {
      here = λ j. pushed_more (layer_in c.args.layers.now) (chosen (has c.args.members.now) (take c.loop-id.id-index c.args.uses.now)) (get_or c.args.uses.now c.loop-id.id-index (record { 0 = 0 }, 0)) (waits c.args.waiting.now) (waits c.loop-id.waiting) (waits c.push_number.new.self) (rw (c.turn_of.ensures.layer, c.turn_of.ensures.id) at c.in_ok-push_number.ensures.waiting.elsewhere) (λ p. change_to p (Int c.args.old.now) (Int c.args.new.now)) (rw (c.turn_of.ensures.layer, c.turn_of.ensures.id) at c.in_ok-push_number.ensures.waiting.here) c.loop-id.invariant.here j ∙ ap (λ us. pushed (map (λ p. change_to p (Int c.args.old.now) (Int c.args.new.now)) (places_in j us)) (waits c.args.waiting.now (layer_in c.args.layers.now j) j)) (sym one);
      elsewhere = told_elsewhere (layer_in c.args.layers.now) (chosen (has c.args.members.now) (take c.loop-id.id-index c.args.uses.now)) (get_or c.args.uses.now c.loop-id.id-index (record { 0 = 0 }, 0)) (waits c.args.waiting.now) (waits c.loop-id.waiting) (waits c.push_number.new.self) (rw (c.turn_of.ensures.layer, c.turn_of.ensures.id) at c.in_ok-push_number.ensures.waiting.elsewhere) c.loop-id.invariant.elsewhere;
      steps = paid (has c.args.members.now) c.args.uses.now c.loop-id.id-index (record { 0 = 0 }, 0) lt (sym c.has.ensures ∙ c.if-not-has.false) 2 c.args.steps.now c.loop-id.steps c.push_number.new.steps c.loop-id.invariant.steps (omega (arith, c.push_number.ensures.steps));
    }
