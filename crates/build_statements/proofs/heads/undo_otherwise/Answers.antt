use Rattle.std.specs.Prelude.{refl}
use Rattle.std.proofs.lemmas.Result.{IfOk-weaker}
use Rattle.build_statements.proofs.Tops.{has_one}
use Rattle.build_statements.proofs.heads.undo_otherwise.Goals as goal

pub take-behind-requires : goal.take-behind-requires
take-behind-requires c = has_one _ c.requires.2

pub returns : goal.returns
returns c = IfOk-weaker c.put.result _ _ (λ _ e. (c.take-behind.result, _, c.take-behind.ensures, (_, refl, (e, refl)))) c.put.ensures
