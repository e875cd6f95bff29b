use Rattle.std.proofs.Common.{◌∙◌, ap, sym, ◌++◌, ◌∷◌, [], w64, rules}
use Rattle.std.specs.Prelude.{FitsSigned}
use Rattle.std.proofs.lemmas.Int.{to_z-of_z}
use Rattle.node_base.proofs.ChangeLemmas.{no_set_there, number_more}
use Rattle.node_base.proofs.over_numbers.numbers_of_inputs.Goals as goal

pub unreachable-requires : goal.unreachable-requires
unreachable-requires c = no_set_there c.args.inputs.now c.loop-input.input-index _ c.input-item.result c.requires c.loop-input-test.true (sym c.input-item.is ∙ c.in-Set.is)

pub loop-input-preserved : goal.loop-input-preserved
loop-input-preserved c =
    let fits : FitsSigned w64 c.in-Int.number = search rules in
    (simp (to_z-of_z w64 c.in-Int.number fits) at c.in_ok-push-in-Int.ensures.items) ∙ ap (λ t. t ++ c.in-Int.number ∷ []) c.loop-input.invariant
    ∙ sym (number_more c.args.inputs.now c.loop-input.input-index c.in-Int.number c.input-item.result c.loop-input-test.true (sym c.input-item.is ∙ c.in-Int.is))
