use Rattle.std.specs.Prelude.{refl}
use Rattle.std.proofs.lemmas.Result.{IfOk-weaker}
use Rattle.build_declarations.proofs.Tops.{has_one}
use Rattle.build_declarations.proofs.dimensions.undo_range_rest.Goals as goal

pub take-range-requires : goal.take-range-requires
take-range-requires c = has_one _ c.requires.2

pub returns : goal.returns
returns c = IfOk-weaker c.put.result _ _ (λ _ e. (c.take-range.result, _, c.take-range.ensures, (_, refl, (e, refl)))) c.put.ensures
