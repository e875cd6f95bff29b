use Rattle.std.proofs.Common.{◌∙◌, ◌+ℤ◌, ◌-ℤ◌, ap, sym, get_or, take, subst}
use Rattle.node_base.specs.NumberChanges.{after_number_changes}
use Rattle.node_base.proofs.ChangeLemmas.{no_change, number_now, number_next, value_answers}
use Rattle.std.proofs.lemmas.List.{take_all}
use Rattle.cbl_base.specs.Arithmetic.{exact}
use Rattle.cbl_base.specs.Totals.{total}
use Rattle.node_num.specs.Few.{IsSmall}
use Rattle.node_num.proofs.SmallTotals.{total_small, total_after, few_after}
use Rattle.node_num.proofs.sum.SumNumberNode.probe.Goals as goal

pub after-total-requires : goal.after-total-requires
after-total-requires c = subst IsSmall (sym c.loop-change.invariant.total) (total_small _ c.loop-change.invariant.few)

pub loop-change-preserved : goal.loop-change-preserved
loop-change-preserved c =
    let xs = c.args.self.now.numbers.items in
    let cs = c.args.changes.now in
    let i = c.loop-change.change-index in
    let change = get_or cs i no_change in
    let here = number_now xs cs i no_change c.requires.changes c.loop-change-test.true in
    rw (number_next xs cs i no_change c.requires.changes c.loop-change-test.true)
    (record {
      total = c.after-total.ensures.value ∙ ap (λ z. (z -ℤ change.old) +ℤ change.new) c.loop-change.invariant.total ∙ sym (total_after (after_number_changes xs (take i cs)) change here);
      few = few_after (after_number_changes xs (take i cs)) change c.after-total.ensures.fits c.loop-change.invariant.few;
    })

pub returns : goal.returns
returns c =
    value_answers _ _ _ (c.narrowed.ensures ∙ ap exact c.loop-change.invariant.total ∙ ap (λ cs. exact (total (after_number_changes c.args.self.now.numbers.items cs))) (take_all c.loop-change.change-index c.args.changes.now c.loop-change-test.false)) c.probe_answer.ensures
