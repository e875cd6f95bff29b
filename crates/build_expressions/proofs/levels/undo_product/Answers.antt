use Rattle.std.specs.Prelude.{◌∷◌, refl, reverse}
use Rattle.std.proofs.Common.{◌∙◌, ap, map}
use Rattle.std.proofs.lemmas.Result.{IfOk-weaker}
use Rattle.comet_syntax.specs.Written.Expressions.{written_link}
use Rattle.parse_stacks.proofs.Tops.{has_one}
use Rattle.build_expressions.proofs.levels.undo_product.Goals as goal

pub take-place-requires : goal.take-place-requires
take-place-requires c = has_one _ c.requires.2

pub take-operand-requires : goal.take-operand-requires
take-operand-requires c = has_one _ c.requires.3.2

pub put_first-requires : goal.put_first-requires
put_first-requires c = has_one _ c.requires.3.3.2

pub returns : goal.returns
returns c = IfOk-weaker c.put_first.result _ _ (λ _ e. (_, _, c.take-place.ensures, (_, _, c.take-operand.ensures, (e.0, _, e.2, (_, (ap (map written_link) e.4 ∙ ap (λ z. z ∷ map written_link (reverse e.0.items)) c.make_link-next.ensures), (e.5, refl)))))) c.put_first.ensures
