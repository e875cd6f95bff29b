use Rattle.std.specs.Prelude.{refl}
use Rattle.std.proofs.lemmas.Result.{IfOk-weaker}
use Rattle.build_declarations.proofs.Tops.{has_one}
use Rattle.build_declarations.proofs.declarations.undo_variable.Goals as goal

pub take-place-requires : goal.take-place-requires
take-place-requires c = has_one _ c.requires.2

pub take-rest-requires : goal.take-rest-requires
take-rest-requires c = has_one _ c.requires.3.2

pub returns : goal.returns
returns c = IfOk-weaker c.put.result _ _ (λ _ e. (c.take-place.result, _, c.take-place.ensures, (c.take-rest.result, _, c.take-rest.ensures, (c.declare_variable.result, c.declare_variable.ensures, (e, refl))))) c.put.ensures
