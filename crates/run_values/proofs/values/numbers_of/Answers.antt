use Rattle.std.proofs.Common.{◌∙◌, rules, w64}
use Rattle.std.specs.Prelude.{FitsSigned}
use Rattle.std.proofs.lemmas.Int.{to_z-of_z}
use Rattle.comet_meaning.specs.Values.{number_of}
use Rattle.run_values.specs.Views.{value_seen}
use Rattle.run_values.proofs.MappedLists.{part_more}
use Rattle.run_values.proofs.values.numbers_of.Goals as goal

pub loop-value-preserved : goal.loop-value-preserved
loop-value-preserved c =
    let fits : FitsSigned w64 c.number.result = search rules in
    part_more number_of value_seen c.args.values.now _ _ _ _ _ c.loop-value-test.true c.value-item.is c.loop-value.invariant c.in_ok-push.ensures.items (to_z-of_z w64 _ fits ∙ c.number.ensures)
