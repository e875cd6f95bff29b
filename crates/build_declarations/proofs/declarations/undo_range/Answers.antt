use Rattle.std.specs.Prelude.{refl}
use Rattle.std.proofs.lemmas.Result.{IfOk-weaker}
use Rattle.build_declarations.proofs.Tops.{has_one}
use Rattle.build_declarations.proofs.declarations.undo_range.Goals as goal

pub take-place-requires : goal.take-place-requires
take-place-requires c = has_one _ c.requires.2

pub take-name-requires : goal.take-name-requires
take-name-requires c = has_one _ c.requires.3.2

pub take-value-requires : goal.take-value-requires
take-value-requires c = has_one _ c.requires.3.3.2

pub returns : goal.returns
returns c = IfOk-weaker c.put.result _ _ (λ _ e. (c.take-place.result, _, c.take-place.ensures, (c.take-name.result, _, c.take-name.ensures, (c.take-value.result, _, c.take-value.ensures, (_, refl, (e, refl)))))) c.put.ensures
