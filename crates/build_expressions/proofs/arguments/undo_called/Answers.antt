use Rattle.std.specs.Prelude.{refl}
use Rattle.std.proofs.lemmas.Result.{IfOk-weaker}
use Rattle.parse_stacks.proofs.Tops.{has_one}
use Rattle.build_expressions.proofs.arguments.undo_called.Goals as goal

pub take-listed-requires : goal.take-listed-requires
take-listed-requires c = has_one _ c.requires.2

pub returns : goal.returns
returns c = IfOk-weaker c.put.result _ _ (λ _ e. (_, _, c.take-listed.ensures, (_, (c.in_order-all.result, refl, c.in_order-all.ensures), (e, refl)))) c.put.ensures
