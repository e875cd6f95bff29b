use Rattle.std.specs.Prelude.{refl}
use Rattle.std.proofs.lemmas.Result.{IfOk-weaker}
use Rattle.parse_stacks.proofs.Tops.{has_one, of_ok}
use Rattle.build_declarations.proofs.programs.undo_function.Goals as goal

pub take-place-requires : goal.take-place-requires
take-place-requires c = has_one _ c.requires.2

pub take-kind-requires : goal.take-kind-requires
take-kind-requires c = has_one _ c.requires.3.2

pub take-name-requires : goal.take-name-requires
take-name-requires c = has_one _ c.requires.3.3.2

pub take-parameters-requires : goal.take-parameters-requires
take-parameters-requires c = has_one _ c.requires.3.3.3.2

pub take-body-requires : goal.take-body-requires
take-body-requires c = has_one _ c.requires.3.3.3.3.2

pub returns : goal.returns
returns c = IfOk-weaker c.put_made.result _ _ (λ _ e. (c.take-place.result, _, c.take-place.ensures, (c.take-kind.result, _, c.take-kind.ensures, (c.take-name.result, _, c.take-name.ensures, (c.take-parameters.result, _, c.take-parameters.ensures, (c.take-body.result, _, c.take-body.ensures, (e.0, (of_ok _ e.1 c.make_function-function.ensures), (e.2, refl)))))))) c.put_made.ensures
