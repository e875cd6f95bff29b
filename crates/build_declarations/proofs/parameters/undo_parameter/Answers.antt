use Rattle.std.specs.Prelude.{refl}
use Rattle.std.proofs.lemmas.Result.{IfOk-weaker}
use Rattle.parse_stacks.proofs.Tops.{has_one}
use Rattle.build_declarations.proofs.parameters.undo_parameter.Goals as goal

pub take-typed-requires : goal.take-typed-requires
take-typed-requires c = has_one _ c.requires.2

pub take-name-requires : goal.take-name-requires
take-name-requires c = has_one _ c.requires.3.2

pub returns : goal.returns
returns c = IfOk-weaker c.put.result _ _ (λ _ e. (c.take-typed.result, _, c.take-typed.ensures, (c.take-name.result, _, c.take-name.ensures, (_, refl, (e, refl))))) c.put.ensures
