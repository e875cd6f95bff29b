use Rattle.std.specs.Prelude.{refl}
use Rattle.std.proofs.Common.{ap, ◌∙◌, map}
use Rattle.std.proofs.lemmas.Result.{IfOk-weaker}
use Rattle.comet_syntax.specs.Written.Statements.{block_text, written_statement}
use Rattle.build_statements.proofs.Tops.{has_one}
use Rattle.build_statements.proofs.statements.undo_block.Goals as goal

pub take-place-requires : goal.take-place-requires
take-place-requires c = has_one _ c.requires.2

pub take-statements-requires : goal.take-statements-requires
take-statements-requires c = has_one _ c.requires.3.2

pub returns : goal.returns
returns c = IfOk-weaker c.put.result _ _ (λ _ e. (c.take-place.result, _, c.take-place.ensures, (c.take-statements.result, _, c.take-statements.ensures, (c.make_block-block.result, c.make_block-block.ensures ∙ ap (λ z. block_text c.take-place.result (map written_statement z)) c.reverse.ensures.items, (e, refl))))) c.put.ensures
