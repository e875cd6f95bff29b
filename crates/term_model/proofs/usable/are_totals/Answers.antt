use Rattle.std.proofs.Common.{rules, ◌≡◌, true, All, subst}
use Rattle.std.proofs.lemmas.Bool.{OnTrue_at}
use Rattle.std.proofs.lemmas.List.{take_all}
use Rattle.std.proofs.lemmas.List.Elements.{All-more}
use Rattle.term_model.specs.Checks.{IsTotal}
use Rattle.term_model.proofs.usable.are_totals.Goals as goal

pub loop-total-preserved : goal.loop-total-preserved
loop-total-preserved c =
    let yes' : c.in_ok-is_total.field-0 ≡ true = search rules in
    let holds : IsTotal c.args.model.now c.total-item.result = OnTrue_at yes' c.in_ok-is_total.ensures in
    All-more (IsTotal c.args.model.now) c.args.totals.now c.loop-total.total-index c.total-item.result c.loop-total-test.true c.loop-total.invariant (subst (IsTotal c.args.model.now) c.total-item.is holds)

pub returns : goal.returns
returns c = subst (All (IsTotal c.args.model.now)) (take_all c.loop-total.total-index c.args.totals.now c.loop-total-test.false) c.loop-total.invariant
