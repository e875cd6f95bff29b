use Rattle.std.specs.Prelude.{◌∷◌, refl, reverse}
use Rattle.std.proofs.Common.{◌∙◌, subst, ap, map}
use Rattle.std.proofs.lemmas.Result.{IfOk-weaker}
use Rattle.comet_syntax.specs.Written.Expressions.{written_link}
use Rattle.comet_syntax.specs.declared.tree.expressions.ChainOperator.TheVariants as chains
use Rattle.build_expressions.specs.MadeLevels.{Joined}
use Rattle.parse_stacks.proofs.Four.{has_four}
use Rattle.parse_stacks.proofs.Tops.{has_one, has_two, has_three, has_more}
use Rattle.build_expressions.proofs.levels.undo_disjunction.Goals as goal

pub take-place-requires : goal.take-place-requires
take-place-requires c = has_one _ c.requires.2

pub take-operand-requires : goal.take-operand-requires
take-operand-requires c = has_one _ c.requires.3.2

pub take-product-requires : goal.take-product-requires
take-product-requires c = has_one _ c.requires.3.3.2

pub take-total-requires : goal.take-total-requires
take-total-requires c = has_more c.args.stacks.now.links.items c.take-product.new.stack.items 0 c.take-product.ensures (has_two c.args.stacks.now.links.items c.requires.3.3.2 c.requires.3.3.3.2)

pub take-up_to-requires : goal.take-up_to-requires
take-up_to-requires c = has_one _ c.requires.3.3.3.3.2

pub take-compared-requires : goal.take-compared-requires
take-compared-requires c = has_one _ c.requires.3.3.3.3.3.2

pub take-conjunction-requires : goal.take-conjunction-requires
take-conjunction-requires c = has_more c.take-product.new.stack.items c.take-total.new.stack.items 0 c.take-total.ensures (has_more c.args.stacks.now.links.items c.take-product.new.stack.items 1 c.take-product.ensures (has_three c.args.stacks.now.links.items c.requires.3.3.2 c.requires.3.3.3.2 c.requires.3.3.3.3.3.3.2))

pub put_first-requires : goal.put_first-requires
put_first-requires c = has_more c.take-total.new.stack.items c.take-conjunction.new.stack.items 0 c.take-conjunction.ensures (has_more c.take-product.new.stack.items c.take-total.new.stack.items 1 c.take-total.ensures (has_more c.args.stacks.now.links.items c.take-product.new.stack.items 2 c.take-product.ensures (has_four c.args.stacks.now.links.items c.requires.3.3.2 c.requires.3.3.3.2 c.requires.3.3.3.3.3.3.2 c.requires.3.3.3.3.3.3.3.2)))

pub returns : goal.returns
returns c = IfOk-weaker c.put_first.result _ _ (λ _ e. (_, _, c.take-place.ensures, (_, _, c.take-operand.ensures, (_, _, c.take-product.ensures, (_, _, c.take-total.ensures, (_, _, c.take-up_to.ensures, (_, _, c.take-compared.ensures, (_, _, c.take-conjunction.ensures, (e.0, _, e.2, (_, subst (λ z. Joined chains.Or c.take-place.result z e.0 e.3) c.in_ok-operand.ensures (ap (map written_link) e.4 ∙ ap (λ z. z ∷ map written_link (reverse e.0.items)) c.make_link-next.ensures), (e.5, refl))))))))))) c.put_first.ensures
