use Rattle.std.specs.Prelude.{refl}
use Rattle.std.proofs.lemmas.Result.{IfOk-weaker}
use Rattle.parse_stacks.proofs.Tops.{has_one}
use Rattle.build_simples.proofs.simples.undo_first_name.Goals as goal

pub take-name-requires : goal.take-name-requires
take-name-requires c = has_one _ c.requires.2

pub returns : goal.returns
returns c = IfOk-weaker c.put.result _ _ (λ _ e. (c.take-name.result, _, c.take-name.ensures, (_, refl, (e, refl)))) c.put.ensures
