use Rattle.std.specs.Prelude.{refl}
use Rattle.std.proofs.lemmas.Result.{IfOk-weaker}
use Rattle.build_declarations.proofs.Tops.{has_one}
use Rattle.build_declarations.proofs.declarations.undo_bool.Goals as goal

pub take-place-requires : goal.take-place-requires
take-place-requires c = has_one _ c.requires.2

pub take-name-requires : goal.take-name-requires
take-name-requires c = has_one _ c.requires.3.2

pub take-start-requires : goal.take-start-requires
take-start-requires c = has_one _ c.requires.3.3.2

pub returns : goal.returns
returns c = IfOk-weaker c.put.result _ _ (λ _ e. (c.take-place.result, _, c.take-place.ensures, (c.take-name.result, _, c.take-name.ensures, (c.take-start.result, _, c.take-start.ensures, (_, refl, (e, refl)))))) c.put.ensures
