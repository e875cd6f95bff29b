use Rattle.std.specs.Prelude.{refl}
use Rattle.std.proofs.lemmas.Result.{IfOk-weaker}
use Rattle.build_declarations.proofs.Tops.{has_one}
use Rattle.build_declarations.proofs.programs.undo_import.Goals as goal

pub take-name-requires : goal.take-name-requires
take-name-requires c = has_one _ c.requires.2

pub returns : goal.returns
returns c = IfOk-weaker c.put.result _ _ (λ _ e. (c.take-name.result, _, c.take-name.ensures, (_, refl, (e, refl)))) c.put.ensures
