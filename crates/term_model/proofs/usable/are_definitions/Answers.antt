use Rattle.std.proofs.Common.{rules, ◌≡◌, ◌∙◌, true, All, subst}
use Rattle.std.proofs.lemmas.Bool.{OnTrue_at}
use Rattle.std.proofs.lemmas.List.{take_all}
use Rattle.std.proofs.lemmas.List.Elements.{All-more}
use Rattle.term_model.specs.Wellformed.{IsDefinition}
use Rattle.term_model.proofs.usable.are_definitions.Goals as goal

pub loop-definition-preserved : goal.loop-definition-preserved
loop-definition-preserved c =
    let yes' : c.in_ok-is_definition.field-0 ≡ true = search rules in
    let holds : IsDefinition c.args.model.now c.definition-item.result = OnTrue_at yes' c.in_ok-is_definition.ensures in
    All-more (IsDefinition c.args.model.now) c.deref-definition-items.result.now c.loop-definition.definition-index c.definition-item.result c.loop-definition-test.true c.loop-definition.invariant (subst (IsDefinition c.args.model.now) c.definition-item.is holds)

pub returns : goal.returns
returns c = subst (All (IsDefinition c.args.model.now)) (take_all c.loop-definition.definition-index c.deref-definition-items.result.now c.loop-definition-test.false ∙ c.deref-definition-items.ensures.value) c.loop-definition.invariant
