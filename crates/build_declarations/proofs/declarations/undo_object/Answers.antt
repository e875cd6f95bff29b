use Rattle.std.specs.Prelude.{refl}
use Rattle.std.proofs.lemmas.Result.{IfOk-weaker}
use Rattle.build_declarations.proofs.Tops.{has_one}
use Rattle.build_declarations.proofs.declarations.undo_object.Goals as goal

pub take-class-requires : goal.take-class-requires
take-class-requires c = has_one _ c.requires.2

pub take-name-requires : goal.take-name-requires
take-name-requires c = has_one _ c.requires.3.2

pub take-maker-requires : goal.take-maker-requires
take-maker-requires c = has_one _ c.requires.3.3.2

pub returns : goal.returns
returns c = IfOk-weaker c.put.result _ _ (λ _ e. (c.take-class.result, _, c.take-class.ensures, (c.take-name.result, _, c.take-name.ensures, (c.take-maker.result, _, c.take-maker.ensures, (_, refl, (e, refl)))))) c.put.ensures
