use Rattle.std.proofs.Common.{◌<◌, ◌^◌, ◌∙◌, pos, length, get_or, set, ap, subst, rules, arith, w64}
use Rattle.std.specs.Prelude.{FitsSigned}
use Rattle.std.proofs.lemmas.Int.{to_z-of_z}
use Rattle.std.proofs.lemmas.List.{length-set, take_all}
use Rattle.cbl_base.specs.Changes.{after_changes}
use Rattle.cbl_base.specs.Inputs.{as_inputs}
use Rattle.node_set.proofs.KeysWhere.{few_where, kept_value, next_turn, stood_turn}
use Rattle.node_set.proofs.NumberTurns.{number_turn, no_set_turn}
use Rattle.node_set.proofs.set_of.SetOfNodeRule.probe.Goals as goal

pub bounds-as_slice-place : goal.bounds-as_slice-place
bounds-as_slice-place c =
    let i = c.loop-change.invariant in
    let turn = number_turn i.0 (as_inputs c.args.self.now.numbers.items) c.args.changes.now c.loop-change.change-index c.change-item.result c.in-Int.place c.in-Int.old c.in-Int.new c.requires.changes c.loop-change-test.true c.change-item.is c.in-Int.is i.1 in
    let within = turn.within in
    let same = ap length c.as_slice.ensures in
    let long = i.2 in
    omega (arith, within, same, long)

pub change-requires-clause-stood : goal.change-requires-clause-stood
change-requires-clause-stood c =
    let i = c.loop-change.invariant in
    let turn = number_turn i.0 (as_inputs c.args.self.now.numbers.items) c.args.changes.now c.loop-change.change-index c.change-item.result c.in-Int.place c.in-Int.old c.in-Int.new c.requires.changes c.loop-change-test.true c.change-item.is c.in-Int.is i.1 in
    let key = get_or c.as_slice.result.now c.in-Int.place (pos 0) in
    let fits : FitsSigned w64 key = search rules in
    let fits_old : FitsSigned w64 c.in-Int.old = search rules in
    rw (to_z-of_z w64 key fits)
    (stood_turn c.loop-change.ones c.args.self.now.keys i.0 c.in-Int.place c.in-Int.old key c.is_one.result i.3 i.2 turn.within turn.there (ap (λ t. get_or t c.in-Int.place (pos 0)) c.as_slice.ensures) (simp (to_z-of_z w64 c.in-Int.old fits_old) at c.is_one.ensures))

pub change-requires-clause-few : goal.change-requires-clause-few
change-requires-clause-few c =
    let i = c.loop-change.invariant in
    let short : length c.as_slice.result.now < 2 ^ 63 = search rules in
    few_where c.loop-change.ones c.args.self.now.keys i.0 _ i.3 (subst (λ t. length t < 2 ^ 63) c.as_slice.ensures short)

pub unreachable-requires : goal.unreachable-requires
unreachable-requires c =
    no_set_turn c.loop-change.invariant.0 (as_inputs c.args.self.now.numbers.items) c.args.changes.now c.loop-change.change-index c.change-item.result c.in-Set.place c.in-Set.added c.in-Set.removed c.requires.changes c.loop-change-test.true c.change-item.is c.in-Set.is c.loop-change.invariant.1

pub loop-change-preserved : goal.loop-change-preserved
loop-change-preserved c =
    let i = c.loop-change.invariant in
    let turn = number_turn i.0 (as_inputs c.args.self.now.numbers.items) c.args.changes.now c.loop-change.change-index c.change-item.result c.in-Int.place c.in-Int.old c.in-Int.new c.requires.changes c.loop-change-test.true c.change-item.is c.in-Int.is i.1 in
    let key = get_or c.as_slice.result.now c.in-Int.place (pos 0) in
    let fits : FitsSigned w64 key = search rules in
    let fits_old : FitsSigned w64 c.in-Int.old = search rules in
    let fits_new : FitsSigned w64 c.in-Int.new = search rules in (
      set i.0 c.in-Int.place c.in-Int.new,
      turn.after,
      length-set i.0 c.in-Int.place c.in-Int.new ∙ i.2,
      next_turn c.loop-change.ones c.change.new.self c.args.self.now.keys i.0 c.in-Int.place c.in-Int.old c.in-Int.new key c.is_one.result c.is_one-in-Int.result (simp (to_z-of_z w64 key fits) at c.in_ok-change-in-Int.ensures) i.3 i.2 turn.within turn.there (ap (λ t. get_or t c.in-Int.place (pos 0)) c.as_slice.ensures) (simp (to_z-of_z w64 c.in-Int.old fits_old) at c.is_one.ensures) (simp (to_z-of_z w64 c.in-Int.new fits_new) at c.is_one-in-Int.ensures),
    )

pub returns : goal.returns
returns c =
    let i = c.loop-change.invariant in
    kept_value c.args.self.now.keys i.0 _ c.loop-change.ones _ (i.1 ∙ ap (λ cs. after_changes (as_inputs c.args.self.now.numbers.items) cs) (take_all _ _ c.loop-change-test.false)) i.3 c.into_kept.ensures
