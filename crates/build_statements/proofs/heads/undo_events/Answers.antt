use Rattle.std.specs.Prelude.{refl}
use Rattle.std.proofs.lemmas.Result.{IfOk-weaker}
use Rattle.build_statements.proofs.Tops.{has_one}
use Rattle.build_statements.proofs.heads.undo_events.Goals as goal

pub take-old-requires : goal.take-old-requires
take-old-requires c = has_one _ c.requires.2

pub returns : goal.returns
returns c = IfOk-weaker c.put.result _ _ (λ _ e. (c.take-old.result, _, c.take-old.ensures, (c.take-new.result, _, c.take-new.ensures, (_, refl, (e, refl))))) c.put.ensures
