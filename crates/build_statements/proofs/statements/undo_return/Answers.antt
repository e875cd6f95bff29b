use Rattle.std.specs.Prelude.{refl}
use Rattle.std.proofs.lemmas.Result.{IfOk-weaker}
use Rattle.parse_stacks.proofs.Tops.{has_one, of_ok}
use Rattle.build_statements.proofs.statements.undo_return.Goals as goal

pub take-place-requires : goal.take-place-requires
take-place-requires c = has_one _ c.requires.2

pub take-value-requires : goal.take-value-requires
take-value-requires c = has_one _ c.requires.3.2

pub returns : goal.returns
returns c = IfOk-weaker c.put_made.result _ _ (λ _ e. (c.take-place.result, _, c.take-place.ensures, (c.take-value.result, _, c.take-value.ensures, (e.0, (of_ok _ e.1 c.make_return-made.ensures), (e.2, refl))))) c.put_made.ensures
