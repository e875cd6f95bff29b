use Rattle.std.proofs.Common.{◌≡◌, ◌+◌, ◌∙◌, ◌<◌, ap, get_or, length, subst, arith}
use Rattle.cbl_base.specs.declared.place.Place.{Place}
use Rattle.cbl_violations.specs.Violations.WeightedTotal.{weighted_total}
use Rattle.graph_values.specs.Members.{members_before}
use Rattle.store_build.proofs.ListLemmas.{in-read}
use Rattle.term_model.specs.Posting.{totals_by}
use Rattle.term_model.specs.declared.model.Total.{Total}
use Rattle.model_nodes.specs.Making.{Fits}
use Rattle.model_nodes.proofs.PartSteps.{next_weight, total_fits, total_room}
use Rattle.model_nodes.proofs.parts.put_totals.Goals as goal

pub loop-number-init : goal.loop-number-init
loop-number-init g c = record {
  made = c.requires.1.1.1.1.1.0;
  count = omega (arith, c.requires.1.1.1.1.1.1);
  weights = omega arith;
}

pub overflow_cast-count : goal.overflow_cast-count
overflow_cast-count g c =
    let M = c.args.model.now in
    let k = c.loop-number.number in
    let lt : k < length (totals_by M c.args.side) = omega (arith, c.loop-number-test.true, ap length c.totals_by-totals.ensures) in
    let there : k < length c.args.members.now = omega (arith, lt, c.requires.1.1.0.count) in
    let is = in-read c.args.members.now k c.index-members-number.result there c.index-members-number.is in
    let room = total_room M c.args.side c.args.members.now c.requires.1.1.0 k lt c.index-members-number.result.items is c.args.first c.loop-number.next c.loop-number.invariant.weights c.requires.1.1.1.1.0 in
    omega (arith, room, c.len-count.ensures, c.index-members-number.result.ok.0)

pub total_inputs-requires : goal.total_inputs-requires
total_inputs-requires g c =
    let M = c.args.model.now in
    let k = c.loop-number.number in
    let lt : k < length (totals_by M c.args.side) = omega (arith, c.loop-number-test.true, ap length c.totals_by-totals.ensures) in
    let there : k < length c.args.members.now = omega (arith, lt, c.requires.1.1.0.count) in
    let is = c.deref.ensures.value ∙ in-read c.args.members.now k c.index-members-number.result there c.index-members-number.is in
    let room = total_room M c.args.side c.args.members.now c.requires.1.1.0 k lt c.deref.result.now is c.args.first c.loop-number.next c.loop-number.invariant.weights c.requires.1.1.1.1.0 in
    room

pub put-requires : goal.put-requires
put-requires g c κs within =
    let M = c.args.model.now in
    let k = c.loop-number.number in
    let lt : k < length (totals_by M c.args.side) = omega (arith, c.loop-number-test.true, ap length c.totals_by-totals.ensures) in
    let there : k < length c.args.members.now = omega (arith, lt, c.requires.1.1.0.count) in
    let is = c.deref.ensures.value ∙ in-read c.args.members.now k c.index-members-number.result there c.index-members-number.is in
    let count : c.len-count.result ≡ length c.deref.result.now = omega (arith, c.len-count.ensures, ap length c.deref.ensures.value, c.index-members-number.result.ok.0) in
    let total = c.index-totals-number.result in
    let begins = c.loop-number.invariant.weights ∙ ap (λ n. n + length (members_before M c.args.side k)) c.requires.1.1.1.0 in
    let own = total_fits M c.args.side c.args.members.now c.requires.1.1.0 k lt c.deref.result.now is g.about c.requires.1.0 total (length c.loop-number.making.lists.items) c.loop-number.next (g.N.NodeRule.rule c.of_total.result) c.in_ok-inputs.inputs.items
    (c.index-totals-number.is ∙ ap (λ ts. get_or ts k total) c.totals_by-totals.ensures) begins c.in_ok-inputs.ensures (c.of_total.ensures ∙ ap weighted_total count) c.loop-number.invariant.count in
    (within, (c.loop-number.invariant.made, subst (λ (p : Place). Fits g.about (length c.loop-number.making.lists.items) (g.N.NodeRule.rule c.of_total.result) c.in_ok-inputs.inputs.items p) (ap (λ (t : Total). t.place) c.index-totals-number.is) own))

pub overflow_add-next : goal.overflow_add-next
overflow_add-next g c =
    let M = c.args.model.now in
    let k = c.loop-number.number in
    let lt : k < length (totals_by M c.args.side) = omega (arith, c.loop-number-test.true, ap length c.totals_by-totals.ensures) in
    let there : k < length c.args.members.now = omega (arith, lt, c.requires.1.1.0.count) in
    let is = c.deref.ensures.value ∙ in-read c.args.members.now k c.index-members-number.result there c.index-members-number.is in
    let room = total_room M c.args.side c.args.members.now c.requires.1.1.0 k lt c.deref.result.now is c.args.first c.loop-number.next c.loop-number.invariant.weights c.requires.1.1.1.1.0 in
    let count : c.len-count.result ≡ length c.deref.result.now = omega (arith, c.len-count.ensures, ap length c.deref.ensures.value, c.index-members-number.result.ok.0) in
    omega (arith, room, count)

pub loop-number-preserved : goal.loop-number-preserved
loop-number-preserved g c =
    let M = c.args.model.now in
    let k = c.loop-number.number in
    let lt : k < length (totals_by M c.args.side) = omega (arith, c.loop-number-test.true, ap length c.totals_by-totals.ensures) in
    let there : k < length c.args.members.now = omega (arith, lt, c.requires.1.1.0.count) in
    let is = c.deref.ensures.value ∙ in-read c.args.members.now k c.index-members-number.result there c.index-members-number.is in
    let count : c.len-count.result ≡ length c.deref.result.now = omega (arith, c.len-count.ensures, ap length c.deref.ensures.value, c.index-members-number.result.ok.0) in
    record {
      made = c.in_ok-put.ensures.made;
      count = omega (arith, c.in_ok-put.ensures.count, c.loop-number.invariant.count);
      weights = ap (λ n. c.loop-number.next + n) count ∙ next_weight M c.args.side c.args.members.now c.requires.1.1.0 k lt c.deref.result.now is c.args.first c.loop-number.next c.loop-number.invariant.weights;
    }

pub returns-clause-made : goal.returns-clause-made
returns-clause-made g c = c.loop-number.invariant.made

pub returns-clause-count : goal.returns-clause-count
returns-clause-count g c =
    let count = c.loop-number.invariant.count in
    omega (arith, count, c.loop-number-test.false, c.loop-number.auto.number-end, ap length c.totals_by-totals.ensures)
