use Rattle.std.proofs.Common.{rules, ◌≡◌, ◌∙◌, true, All, subst}
use Rattle.std.proofs.lemmas.Bool.{OnTrue_at}
use Rattle.std.proofs.lemmas.List.{take_all}
use Rattle.std.proofs.lemmas.List.Elements.{All-more}
use Rattle.term_model.specs.Wellformed.{IsMember}
use Rattle.term_model.proofs.usable.is_total.Goals as goal

pub loop-member-preserved : goal.loop-member-preserved
loop-member-preserved c =
    let yes' : c.in_ok-is_member.field-0 ≡ true = search rules in
    let holds : IsMember c.args.model.now c.member-item.result = OnTrue_at yes' c.in_ok-is_member.ensures in
    All-more (IsMember c.args.model.now) c.deref-member-items.result.now c.loop-member.member-index c.member-item.result c.loop-member-test.true c.loop-member.invariant (subst (IsMember c.args.model.now) c.member-item.is holds)

pub returns : goal.returns
returns c = subst (All (IsMember c.args.model.now)) (take_all c.loop-member.member-index c.deref-member-items.result.now c.loop-member-test.false ∙ c.deref-member-items.ensures.value) c.loop-member.invariant
