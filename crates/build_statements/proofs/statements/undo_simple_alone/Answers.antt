use Rattle.std.specs.Prelude.{refl}
use Rattle.std.proofs.lemmas.Result.{IfOk-weaker}
use Rattle.build_statements.proofs.Tops.{has_one}
use Rattle.build_statements.proofs.statements.undo_simple_alone.Goals as goal

pub take-simple-requires : goal.take-simple-requires
take-simple-requires c = has_one _ c.requires.2

pub returns : goal.returns
returns c = IfOk-weaker c.put.result _ _ (λ _ e. (c.take-simple.result, _, c.take-simple.ensures, (c.make_simple_alone-made.result, c.make_simple_alone-made.ensures, (e, refl)))) c.put.ensures
