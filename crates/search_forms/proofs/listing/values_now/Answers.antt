-- One more name's value, and all of them.
use Rattle.std.proofs.Common.{◌∙◌, ap, rules, ◌++◌, ◌∷◌, [], ℤ, FitsSigned, w64}
use Rattle.std.proofs.lemmas.Int.{to_z-of_z}
use Rattle.run_steps.specs.OfRunState.Views.{state_seen}
use Rattle.search_forms.proofs.LastLaws.{value_more, values_known, values_many}
use Rattle.run_steps.specs.OfRunOutside.Told.{nothing_told}
use Rattle.search_forms.proofs.listing.values_now.Goals as goal

pub loop-generator-preserved : goal.loop-generator-preserved
loop-generator-preserved c =
    let f : FitsSigned w64 c.number.result = search rules in
    record {
      known = λ printed.
          rw (to_z-of_z w64 c.number.result f) at c.in_ok-push.ensures.items
          ∙ ap (λ (z : ℤ). c.loop-generator.values.items ++ z ∷ []) c.number.ensures
          ∙ value_more (state_seen c.args.s.now printed) c.args.generators.now c.loop-generator.generator-index c.generator-item.result c.loop-generator.values.items c.loop-generator-test.true c.generator-item.is (c.in_ok-value.ensures.did printed) (c.loop-generator.invariant.known printed);
    }

pub returns-clause-did : goal.returns-clause-did
returns-clause-did c = λ printed. values_known (state_seen c.args.s.now printed) c.args.generators.now c.loop-generator.generator-index c.loop-generator.values.items c.loop-generator-test.false (c.loop-generator.invariant.known printed)

pub returns-clause-many : goal.returns-clause-many
returns-clause-many c = values_many (state_seen c.args.s.now nothing_told) c.args.generators.now c.loop-generator.generator-index c.loop-generator.values.items c.loop-generator-test.false (c.loop-generator.invariant.known nothing_told)
