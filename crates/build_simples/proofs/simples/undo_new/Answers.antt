use Rattle.std.specs.Prelude.{refl}
use Rattle.std.proofs.lemmas.Result.{IfOk-weaker}
use Rattle.parse_stacks.specs.declared.tails.NewValue.TheVariants as new_values
use Rattle.parse_stacks.proofs.Tops.{has_one}
use Rattle.build_simples.proofs.simples.undo_new.Goals as goal

pub take-class-requires : goal.take-class-requires
take-class-requires c = has_one _ c.requires.2

pub take-arguments-requires : goal.take-arguments-requires
take-arguments-requires c = has_one _ c.requires.3.2

pub returns : goal.returns
returns c = IfOk-weaker c.put.result _ _ (λ _ e. (c.take-class.result, _, c.take-class.ensures, (c.take-arguments.result, _, c.take-arguments.ensures, (new_values.New c.take-class.result c.take-arguments.result, refl, (e, refl))))) c.put.ensures
