use Rattle.std.specs.Prelude.{Some, refl}
use Rattle.std.proofs.lemmas.Result.{IfOk-weaker}
use Rattle.build_statements.proofs.Tops.{has_one}
use Rattle.build_statements.proofs.heads.undo_for_step.Goals as goal

pub take-step-requires : goal.take-step-requires
take-step-requires c = has_one _ c.requires.2

pub returns : goal.returns
returns c = IfOk-weaker c.put.result _ _ (λ _ e. (c.take-step.result, _, c.take-step.ensures, (Some c.take-step.result, refl, (e, refl)))) c.put.ensures
