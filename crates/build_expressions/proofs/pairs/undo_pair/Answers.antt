use Rattle.std.specs.Prelude.{refl}
use Rattle.std.proofs.lemmas.Result.{IfOk-weaker}
use Rattle.parse_stacks.proofs.Tops.{has_one, of_ok}
use Rattle.build_expressions.proofs.pairs.undo_pair.Goals as goal

pub take-place-requires : goal.take-place-requires
take-place-requires c = has_one _ c.requires.2

pub take-behind-requires : goal.take-behind-requires
take-behind-requires c = has_one _ c.requires.3.2

pub returns : goal.returns
returns c = IfOk-weaker c.put_made.result _ _ (λ _ e. (c.take-place.result, _, c.take-place.ensures, (c.take-behind.result, _, c.take-behind.ensures, (e.0, (of_ok _ e.1 c.make_pair-made.ensures), (e.2, refl))))) c.put_made.ensures
