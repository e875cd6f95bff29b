use Rattle.std.specs.Prelude.{refl}
use Rattle.std.proofs.lemmas.Result.{IfOk-weaker}
use Rattle.parse_stacks.proofs.Tops.{has_one}
use Rattle.build_expressions.proofs.arguments.undo_string.Goals as goal

pub take-string-requires : goal.take-string-requires
take-string-requires c = has_one _ c.requires.2

pub returns : goal.returns
returns c = IfOk-weaker c.put.result _ _ (λ _ e. (c.take-string.result, _, c.take-string.ensures, (_, refl, (e, refl)))) c.put.ensures
