use Rattle.std.specs.Prelude.{refl}
use Rattle.std.proofs.lemmas.Result.{IfOk-weaker}
use Rattle.parse_stacks.proofs.Tops.{has_one}
use Rattle.build_simples.proofs.simples.undo_swap.Goals as goal

pub take-right-requires : goal.take-right-requires
take-right-requires c = has_one _ c.requires.2

pub returns : goal.returns
returns c = IfOk-weaker c.put.result _ _ (λ _ e. (c.take-right.result, _, c.take-right.ensures, (_, refl, (e, refl)))) c.put.ensures
