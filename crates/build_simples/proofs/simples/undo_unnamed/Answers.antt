use Rattle.std.specs.Prelude.{refl}
use Rattle.std.proofs.Common.{ap, ◌∙◌}
use Rattle.std.proofs.lemmas.Result.{IfOk-weaker}
use Rattle.build_simples.specs.MadeSimples.{done_text}
use Rattle.parse_stacks.proofs.Tops.{has_one, of_ok}
use Rattle.build_simples.proofs.simples.undo_unnamed.Goals as goal

pub take-primary-requires : goal.take-primary-requires
take-primary-requires c = has_one _ c.requires.2

pub take-suffixes-requires : goal.take-suffixes-requires
take-suffixes-requires c = has_one _ c.requires.3.2

pub take-rest-requires : goal.take-rest-requires
take-rest-requires c = has_one _ c.requires.3.3.2

pub returns : goal.returns
returns c = IfOk-weaker c.put_made.result _ _ (λ _ e. (c.take-primary.result, _, c.take-primary.ensures, (c.take-suffixes.result, _, c.take-suffixes.ensures, (c.take-rest.result, _, c.take-rest.ensures, (e.0, (of_ok _ e.1 c.finish_target-made.ensures) ∙ ap (λ z. done_text z c.take-rest.result) c.in_ok-target.ensures, (e.2, refl)))))) c.put_made.ensures
