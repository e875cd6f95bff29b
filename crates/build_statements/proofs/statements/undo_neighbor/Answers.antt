use Rattle.std.specs.Prelude.{refl}
use Rattle.std.proofs.lemmas.Result.{IfOk-weaker}
use Rattle.parse_stacks.proofs.Tops.{has_one, of_ok}
use Rattle.build_statements.proofs.statements.undo_neighbor.Goals as goal

pub take-place-requires : goal.take-place-requires
take-place-requires c = has_one _ c.requires.2

pub take-key-requires : goal.take-key-requires
take-key-requires c = has_one _ c.requires.3.2

pub take-selector-requires : goal.take-selector-requires
take-selector-requires c = has_one _ c.requires.3.3.2

pub take-body-requires : goal.take-body-requires
take-body-requires c = has_one _ c.requires.3.3.3.2

pub returns : goal.returns
returns c = IfOk-weaker c.put_made.result _ _ (λ _ e. (c.take-place.result, _, c.take-place.ensures, (c.take-key.result, _, c.take-key.ensures, (c.take-selector.result, _, c.take-selector.ensures, (c.take-body.result, _, c.take-body.ensures, (e.0, (of_ok _ e.1 c.make_neighbor-made.ensures), (e.2, refl))))))) c.put_made.ensures
