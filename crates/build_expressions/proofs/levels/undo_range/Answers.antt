use Rattle.std.specs.Prelude.{refl}
use Rattle.std.proofs.lemmas.Result.{IfOk-weaker}
use Rattle.parse_stacks.proofs.Tops.{has_one, has_two, has_more}
use Rattle.build_expressions.proofs.levels.undo_range.Goals as goal

pub take-place-requires : goal.take-place-requires
take-place-requires c = has_one _ c.requires.2

pub take-operand-requires : goal.take-operand-requires
take-operand-requires c = has_one _ c.requires.3.2

pub take-product-requires : goal.take-product-requires
take-product-requires c = has_one _ c.requires.3.3.2

pub take-total-requires : goal.take-total-requires
take-total-requires c = has_more c.args.stacks.now.links.items c.take-product.new.stack.items 0 c.take-product.ensures (has_two c.args.stacks.now.links.items c.requires.3.3.2 c.requires.3.3.3.2)

pub returns : goal.returns
returns c = IfOk-weaker c.put.result _ _ (λ _ e. (_, _, c.take-place.ensures, (_, _, c.take-operand.ensures, (_, _, c.take-product.ensures, (_, _, c.take-total.ensures, (_, (c.in_ok-high.high, refl, c.in_ok-high.ensures), (e, refl))))))) c.put.ensures
