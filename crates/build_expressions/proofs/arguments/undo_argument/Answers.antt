use Rattle.std.specs.Prelude.{refl}
use Rattle.std.proofs.lemmas.Result.{IfOk-weaker}
use Rattle.parse_stacks.proofs.Tops.{has_one}
use Rattle.build_expressions.proofs.arguments.undo_argument.Goals as goal

pub take-value-requires : goal.take-value-requires
take-value-requires c = has_one _ c.requires.2

pub returns : goal.returns
returns c = IfOk-weaker c.put.result _ _ (λ _ e. (c.take-value.result, _, c.take-value.ensures, (_, refl, (e, refl)))) c.put.ensures
