use Rattle.std.specs.Prelude.{refl}
use Rattle.std.proofs.lemmas.Result.{IfOk-weaker}
use Rattle.build_statements.proofs.Tops.{has_one}
use Rattle.build_statements.proofs.statements.undo_block_alone.Goals as goal

pub take-block-requires : goal.take-block-requires
take-block-requires c = has_one _ c.requires.2

pub returns : goal.returns
returns c = IfOk-weaker c.put.result _ _ (λ _ e. (c.take-block.result, _, c.take-block.ensures, (c.make_block_alone-made.result, c.make_block_alone-made.ensures, (e, refl)))) c.put.ensures
