use Rattle.std.specs.Prelude.{refl}
use Rattle.std.proofs.Common.{ap, ◌∙◌}
use Rattle.std.proofs.lemmas.Result.{IfOk-weaker}
use Rattle.comet_syntax.specs.Written.Expressions.{aggregate, written_generators}
use Rattle.parse_stacks.proofs.Tops.{has_one, of_ok}
use Rattle.build_expressions.proofs.operands.undo_aggregate.Goals as goal

pub take-place-requires : goal.take-place-requires
take-place-requires c = has_one _ c.requires.2

pub take-operand-requires : goal.take-operand-requires
take-operand-requires c = has_one _ c.requires.3.3.2

pub take-product-requires : goal.take-product-requires
take-product-requires c = has_one _ c.requires.3.3.3.2

pub take-generators-requires : goal.take-generators-requires
take-generators-requires c = has_one _ c.requires.3.2

pub returns : goal.returns
returns c = IfOk-weaker c.put_made.result _ _ (λ _ e. (_, _, c.take-place.ensures, (_, _, c.take-generators.ensures, (_, _, c.take-operand.ensures, (_, _, c.take-product.ensures, (_, (of_ok _ e.1 c.make_aggregate-made.ensures) ∙ ap (aggregate c.args.kind c.take-place.result (written_generators c.take-generators.result)) c.in_ok-body.ensures, (e.2, refl))))))) c.put_made.ensures
