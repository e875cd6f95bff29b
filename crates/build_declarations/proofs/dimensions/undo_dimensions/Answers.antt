use Rattle.std.specs.Prelude.{refl}
use Rattle.std.proofs.lemmas.Result.{IfOk-weaker}
use Rattle.build_declarations.proofs.Tops.{has_one}
use Rattle.build_declarations.proofs.dimensions.undo_dimensions.Goals as goal

pub take-first-requires : goal.take-first-requires
take-first-requires c = has_one _ c.requires.2

pub take-second-requires : goal.take-second-requires
take-second-requires c = has_one _ c.requires.3.2

pub returns : goal.returns
returns c = IfOk-weaker c.put.result _ _ (λ _ e. (c.take-first.result, _, c.take-first.ensures, (c.take-second.result, _, c.take-second.ensures, (_, refl, (e, refl))))) c.put.ensures
