use Rattle.std.proofs.Common.{rules, w64}
use Rattle.std.specs.Prelude.{FitsSigned}
use Rattle.std.proofs.lemmas.Int.{to_z-of_z}
use Rattle.run_values.specs.Views.{element_seen}
use Rattle.run_values.proofs.MappedLists.{part_more}
use Rattle.run_values.proofs.aggregates.keys_in.Goals as goal

pub loop-element-preserved : goal.loop-element-preserved
loop-element-preserved c =
    let fits : FitsSigned w64 c.element-item.result.key = search rules in
    part_more (λ x. x.key) element_seen c.args.elements.now _ _ _ _ _ c.loop-element-test.true c.element-item.is c.loop-element.invariant c.in_ok-push.ensures.items (to_z-of_z w64 _ fits)
