use Rattle.std.specs.Prelude.{refl}
use Rattle.std.proofs.lemmas.Result.{IfOk-weaker}
use Rattle.parse_stacks.proofs.Tops.{has_one, of_ok}
use Rattle.build_statements.proofs.statements.undo_whenever.Goals as goal

pub take-place-requires : goal.take-place-requires
take-place-requires c = has_one _ c.requires.2

pub take-variable-requires : goal.take-variable-requires
take-variable-requires c = has_one _ c.requires.3.2

pub take-event-requires : goal.take-event-requires
take-event-requires c = has_one _ c.requires.3.3.2

pub take-names-requires : goal.take-names-requires
take-names-requires c = has_one _ c.requires.3.3.3.2

pub take-body-requires : goal.take-body-requires
take-body-requires c = has_one _ c.requires.3.3.3.3.2

pub returns : goal.returns
returns c = IfOk-weaker c.put_made.result _ _ (λ _ e. (c.take-place.result, _, c.take-place.ensures, (c.take-variable.result, _, c.take-variable.ensures, (c.take-event.result, _, c.take-event.ensures, (c.take-names.result, _, c.take-names.ensures, (c.take-body.result, _, c.take-body.ensures, (e.0, (of_ok _ e.1 c.make_whenever-made.ensures), (e.2, refl)))))))) c.put_made.ensures
