use Rattle.std.specs.Prelude.{◌∷◌, map, reverse, refl}
use Rattle.std.proofs.Common.{ap, ◌∙◌}
use Rattle.std.proofs.lemmas.Result.{IfOk-weaker}
use Rattle.comet_syntax.specs.Written.Expressions.{written_suffix}
use Rattle.parse_stacks.proofs.Tops.{has_one}
use Rattle.build_expressions.proofs.arguments.undo_index.Goals as goal

pub take-place-requires : goal.take-place-requires
take-place-requires c = has_one _ c.requires.2

pub take-index-requires : goal.take-index-requires
take-index-requires c = has_one _ c.requires.3.2

pub take-second-requires : goal.take-second-requires
take-second-requires c = has_one _ c.requires.3.3.2

pub put_first-requires : goal.put_first-requires
put_first-requires c = has_one _ c.requires.3.3.3.2

pub returns : goal.returns
returns c = IfOk-weaker c.put_first.result _ _ (λ _ e. (_, _, c.take-place.ensures, (_, _, c.take-index.ensures, (_, _, c.take-second.ensures, (e.0, _, e.2, (_, ap (map written_suffix) e.4 ∙ ap (λ z. z ∷ map written_suffix (reverse e.0.items)) c.make_index-next.ensures, (e.5, refl))))))) c.put_first.ensures
