use Rattle.std.specs.Prelude.{refl}
use Rattle.std.proofs.lemmas.Result.{IfOk-weaker}
use Rattle.parse_stacks.proofs.Tops.{has_one, of_ok}
use Rattle.build_expressions.proofs.generating.undo_generators_form.Goals as goal

pub take-first-requires : goal.take-first-requires
take-first-requires c = has_one _ c.requires.2

pub take-more-requires : goal.take-more-requires
take-more-requires c = has_one _ c.requires.3.2

pub take-condition-requires : goal.take-condition-requires
take-condition-requires c = has_one _ c.requires.3.3.2

pub returns : goal.returns
returns c = IfOk-weaker c.put_made.result _ _ (λ _ e. (c.take-first.result, _, c.take-first.ensures, (c.take-more.result, _, c.take-more.ensures, (c.take-condition.result, _, c.take-condition.ensures, (e.0, (of_ok _ e.1 c.join_generators-made.ensures), (e.2, refl)))))) c.put_made.ensures
