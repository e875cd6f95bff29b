use Rattle.std.specs.Prelude.{◌∷◌, refl, reverse}
use Rattle.std.proofs.Common.{◌∙◌, subst, ap, map}
use Rattle.std.proofs.lemmas.Result.{IfOk-weaker}
use Rattle.comet_syntax.specs.Written.Expressions.{written_link}
use Rattle.build_expressions.specs.MadeLevels.{Joined}
use Rattle.parse_stacks.proofs.Tops.{has_one, has_two, has_more}
use Rattle.build_expressions.proofs.levels.undo_total.Goals as goal

pub take-place-requires : goal.take-place-requires
take-place-requires c = has_one _ c.requires.2

pub take-operand-requires : goal.take-operand-requires
take-operand-requires c = has_one _ c.requires.3.2

pub take-product-requires : goal.take-product-requires
take-product-requires c = has_one _ c.requires.3.3.2

pub put_first-requires : goal.put_first-requires
put_first-requires c = has_more c.args.stacks.now.links.items c.take-product.new.stack.items 0 c.take-product.ensures (has_two c.args.stacks.now.links.items c.requires.3.3.2 c.requires.3.3.3.2)

pub returns : goal.returns
returns c = IfOk-weaker c.put_first.result _ _ (λ _ e. (_, _, c.take-place.ensures, (_, _, c.take-operand.ensures, (_, _, c.take-product.ensures, (e.0, _, e.2, (_, subst (λ z. Joined c.args.operator c.take-place.result z e.0 e.3) c.in_ok-operand.ensures (ap (map written_link) e.4 ∙ ap (λ z. z ∷ map written_link (reverse e.0.items)) c.make_link-next.ensures), (e.5, refl))))))) c.put_first.ensures
