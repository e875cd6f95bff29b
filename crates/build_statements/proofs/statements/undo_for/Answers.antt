use Rattle.std.specs.Prelude.{refl}
use Rattle.std.proofs.lemmas.Result.{IfOk-weaker}
use Rattle.parse_stacks.proofs.Tops.{has_one, of_ok}
use Rattle.build_statements.proofs.statements.undo_for.Goals as goal

pub take-place-requires : goal.take-place-requires
take-place-requires c = has_one _ c.requires.2

pub take-start-requires : goal.take-start-requires
take-start-requires c = has_one _ c.requires.3.2

pub take-test-requires : goal.take-test-requires
take-test-requires c = has_one _ c.requires.3.3.2

pub take-step-requires : goal.take-step-requires
take-step-requires c = has_one _ c.requires.3.3.3.2

pub take-body-requires : goal.take-body-requires
take-body-requires c = has_one _ c.requires.3.3.3.3.2

pub returns : goal.returns
returns c = IfOk-weaker c.put_made.result _ _ (λ _ e. (c.take-place.result, _, c.take-place.ensures, (c.take-start.result, _, c.take-start.ensures, (c.take-test.result, _, c.take-test.ensures, (c.take-step.result, _, c.take-step.ensures, (c.take-body.result, _, c.take-body.ensures, (e.0, (of_ok _ e.1 c.make_for-made.ensures), (e.2, refl)))))))) c.put_made.ensures
