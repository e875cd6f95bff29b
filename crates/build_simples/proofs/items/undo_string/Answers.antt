use Rattle.std.specs.Prelude.{refl}
use Rattle.std.proofs.lemmas.Result.{IfOk-weaker}
use Rattle.parse_stacks.proofs.Tops.{has_one}
use Rattle.build_simples.proofs.items.undo_string.Goals as goal

pub take-text-requires : goal.take-text-requires
take-text-requires c = has_one _ c.requires.2

pub returns : goal.returns
returns c = IfOk-weaker c.put.result _ _ (λ _ e. (c.take-text.result, _, c.take-text.ensures, (_, refl, (e, refl)))) c.put.ensures
