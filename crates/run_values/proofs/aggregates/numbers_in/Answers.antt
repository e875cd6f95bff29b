use Rattle.std.proofs.Common.{◌∙◌, rules, w64}
use Rattle.std.specs.Prelude.{FitsSigned}
use Rattle.std.proofs.lemmas.Int.{to_z-of_z}
use Rattle.comet_meaning.specs.Values.{number_of}
use Rattle.run_values.specs.Views.{element_seen}
use Rattle.run_values.proofs.MappedLists.{part_more}
use Rattle.run_values.proofs.aggregates.numbers_in.Goals as goal

pub loop-element-preserved : goal.loop-element-preserved
loop-element-preserved c =
    let fits : FitsSigned w64 c.number.result = search rules in
    part_more (λ x. number_of x.value) element_seen c.args.elements.now _ _ _ _ _ c.loop-element-test.true c.element-item.is c.loop-element.invariant c.in_ok-push.ensures.items (to_z-of_z w64 _ fits ∙ c.number.ensures)
