use Rattle.std.specs.Prelude.{refl}
use Rattle.std.proofs.lemmas.Result.{IfOk-weaker}
use Rattle.parse_stacks.proofs.Tops.{has_one}
use Rattle.build_expressions.proofs.arguments.undo_second.Goals as goal

pub take-index-requires : goal.take-index-requires
take-index-requires c = has_one _ c.requires.2

pub returns : goal.returns
returns c = IfOk-weaker c.put.result _ _ (λ _ e. (c.take-index.result, _, c.take-index.ensures, (_, refl, (e, refl)))) c.put.ensures
