use Rattle.std.specs.Prelude.{refl}
use Rattle.std.proofs.lemmas.Result.{IfOk-weaker}
use Rattle.build_declarations.proofs.Tops.{has_one}
use Rattle.build_declarations.proofs.declarations.undo_new.Goals as goal

pub take-made-requires : goal.take-made-requires
take-made-requires c = has_one _ c.requires.2

pub take-arguments-requires : goal.take-arguments-requires
take-arguments-requires c = has_one _ c.requires.3.2

pub returns : goal.returns
returns c = IfOk-weaker c.put.result _ _ (λ _ e. (c.take-made.result, _, c.take-made.ensures, (c.take-arguments.result, _, c.take-arguments.ensures, (c.make_new.result, c.make_new.ensures, (e, refl))))) c.put.ensures
