use Rattle.std.specs.Prelude.{refl}
use Rattle.std.proofs.lemmas.Result.{IfOk-weaker}
use Rattle.parse_stacks.proofs.Tops.{has_one}
use Rattle.build_expressions.proofs.generating.undo_condition.Goals as goal

pub take-test-requires : goal.take-test-requires
take-test-requires c = has_one _ c.requires.2

pub returns : goal.returns
returns c = IfOk-weaker c.put.result _ _ (λ _ e. (c.take-test.result, _, c.take-test.ensures, (_, refl, (e, refl)))) c.put.ensures
