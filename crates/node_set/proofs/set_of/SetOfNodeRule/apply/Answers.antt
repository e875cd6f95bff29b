use Rattle.std.proofs.Common.{◌<◌, ◌^◌, ◌∙◌, pos, length, get_or, ap, subst, rules, arith, w64}
use Rattle.std.specs.Prelude.{FitsSigned}
use Rattle.std.proofs.lemmas.Int.{to_z-of_z}
use Rattle.std.proofs.lemmas.List.{length-set}
use Rattle.cbl_base.specs.Inputs.{as_inputs}
use Rattle.node_set.proofs.KeysWhere.{few_where, next_turn, stood_turn}
use Rattle.node_set.proofs.NumberTurns.{number_turn, no_set_turn}
use Rattle.node_set.proofs.set_of.SetOfNodeRule.apply.Goals as goal

pub bounds-as_slice-place : goal.bounds-as_slice-place
bounds-as_slice-place c =
    let s = c.loop-change.self in
    let turn = number_turn s.numbers.items (as_inputs c.args.self.now.numbers.items) c.args.changes.now c.loop-change.change-index c.change-item.result c.in-Int.place c.in-Int.old c.in-Int.new c.requires.changes c.loop-change-test.true c.change-item.is c.in-Int.is c.loop-change.invariant.held in
    let within = turn.within in
    let same = ap length c.as_slice.ensures in
    let long = c.loop-change.invariant.length in
    omega (arith, within, same, long)

pub change-requires-clause-stood : goal.change-requires-clause-stood
change-requires-clause-stood c =
    let s = c.loop-change.self in
    let turn = number_turn s.numbers.items (as_inputs c.args.self.now.numbers.items) c.args.changes.now c.loop-change.change-index c.change-item.result c.in-Int.place c.in-Int.old c.in-Int.new c.requires.changes c.loop-change-test.true c.change-item.is c.in-Int.is c.loop-change.invariant.held in
    let key = get_or c.as_slice.result.now c.in-Int.place (pos 0) in
    let fits : FitsSigned w64 key = search rules in
    let fits_old : FitsSigned w64 c.in-Int.old = search rules in
    rw (to_z-of_z w64 key fits)
    (stood_turn s.ones s.keys s.numbers.items c.in-Int.place c.in-Int.old key c.is_one.result c.loop-change.invariant.bag c.loop-change.invariant.length turn.within turn.there (ap (λ t. get_or t c.in-Int.place (pos 0)) c.as_slice.ensures) (simp (to_z-of_z w64 c.in-Int.old fits_old) at c.is_one.ensures))

pub change-requires-clause-few : goal.change-requires-clause-few
change-requires-clause-few c =
    let s = c.loop-change.self in
    let short : length c.as_slice.result.now < 2 ^ 63 = search rules in
    few_where s.ones s.keys s.numbers.items _ c.loop-change.invariant.bag (subst (λ t. length t < 2 ^ 63) c.as_slice.ensures short)

pub index_mut-requires : goal.index_mut-requires
index_mut-requires c =
    let s = c.loop-change.self in
    let turn = number_turn s.numbers.items (as_inputs c.args.self.now.numbers.items) c.args.changes.now c.loop-change.change-index c.change-item.result c.in-Int.place c.in-Int.old c.in-Int.new c.requires.changes c.loop-change-test.true c.change-item.is c.in-Int.is c.loop-change.invariant.held in
    let within = turn.within in
    let ok = s.numbers.ok in
    omega (arith, within, ok.0)

pub unreachable-requires : goal.unreachable-requires
unreachable-requires c =
    no_set_turn c.loop-change.self.numbers.items (as_inputs c.args.self.now.numbers.items) c.args.changes.now c.loop-change.change-index c.change-item.result c.in-Set.place c.in-Set.added c.in-Set.removed c.requires.changes c.loop-change-test.true c.change-item.is c.in-Set.is c.loop-change.invariant.held

pub loop-change-preserved : goal.loop-change-preserved
loop-change-preserved c =
    let s = c.loop-change.self in
    let turn = number_turn s.numbers.items (as_inputs c.args.self.now.numbers.items) c.args.changes.now c.loop-change.change-index c.change-item.result c.in-Int.place c.in-Int.old c.in-Int.new c.requires.changes c.loop-change-test.true c.change-item.is c.in-Int.is c.loop-change.invariant.held in
    let key = get_or c.as_slice.result.now c.in-Int.place (pos 0) in
    let fits : FitsSigned w64 key = search rules in
    let fits_old : FitsSigned w64 c.in-Int.old = search rules in
    let fits_new : FitsSigned w64 c.in-Int.new = search rules in
    rw (to_z-of_z w64 c.in-Int.new fits_new)
    (record {
      held = turn.after;
      bag = next_turn s.ones c.change.new.self s.keys s.numbers.items c.in-Int.place c.in-Int.old c.in-Int.new key c.is_one.result c.is_one-in-Int.result (simp (to_z-of_z w64 key fits) at c.in_ok-change-in-Int.ensures) c.loop-change.invariant.bag c.loop-change.invariant.length turn.within turn.there (ap (λ t. get_or t c.in-Int.place (pos 0)) c.as_slice.ensures) (simp (to_z-of_z w64 c.in-Int.old fits_old) at c.is_one.ensures) (simp (to_z-of_z w64 c.in-Int.new fits_new) at c.is_one-in-Int.ensures);
      length = length-set s.numbers.items c.in-Int.place c.in-Int.new ∙ c.loop-change.invariant.length;
      keys = c.loop-change.invariant.keys;
    })
