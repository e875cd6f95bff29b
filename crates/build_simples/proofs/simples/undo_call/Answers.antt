use Rattle.std.specs.Prelude.{refl}
use Rattle.std.proofs.lemmas.Result.{IfOk-weaker}
use Rattle.parse_stacks.proofs.Tops.{has_one, of_ok}
use Rattle.build_simples.proofs.simples.undo_call.Goals as goal

pub take-place-requires : goal.take-place-requires
take-place-requires c = has_one _ c.requires.2

pub take-chosen-requires : goal.take-chosen-requires
take-chosen-requires c = has_one _ c.requires.3.2

pub returns : goal.returns
returns c = IfOk-weaker c.put_made.result _ _ (λ _ e. (c.take-place.result, _, c.take-place.ensures, (c.take-chosen.result, _, c.take-chosen.ensures, (e.0, (of_ok _ e.1 c.make_call-made.ensures), (e.2, refl))))) c.put_made.ensures
