use Rattle.std.specs.Prelude.{refl}
use Rattle.std.proofs.lemmas.Result.{IfOk-weaker}
use Rattle.build_declarations.proofs.Tops.{has_one}
use Rattle.build_declarations.proofs.declarations.undo_direct.Goals as goal

pub take-arguments-requires : goal.take-arguments-requires
take-arguments-requires c = has_one _ c.requires.2

pub returns : goal.returns
returns c = IfOk-weaker c.put.result _ _ (λ _ e. (c.take-arguments.result, _, c.take-arguments.ensures, (c.make_direct.result, c.make_direct.ensures, (e, refl)))) c.put.ensures
