use Rattle.std.specs.Prelude.{refl}
use Rattle.std.proofs.lemmas.Result.{IfOk-weaker}
use Rattle.parse_stacks.proofs.Tops.{has_one, of_ok}
use Rattle.build_declarations.proofs.dimensions.undo_named_dimension.Goals as goal

pub take-name-requires : goal.take-name-requires
take-name-requires c = has_one _ c.requires.2

pub take-rest-requires : goal.take-rest-requires
take-rest-requires c = has_one _ c.requires.3.2

pub returns : goal.returns
returns c = IfOk-weaker c.put_made.result _ _ (λ _ e. (c.take-name.result, _, c.take-name.ensures, (c.take-rest.result, _, c.take-rest.ensures, (e.0, (of_ok _ e.1 c.make_named-dimension.ensures), (e.2, refl))))) c.put_made.ensures
