use Rattle.std.specs.Prelude.{refl}
use Rattle.std.proofs.lemmas.Result.{IfOk-weaker}
use Rattle.build_expressions.proofs.arguments.undo_no_call.Goals as goal

pub returns : goal.returns
returns c = IfOk-weaker c.put.result _ _ (λ _ e. (_, refl, (e, refl))) c.put.ensures
