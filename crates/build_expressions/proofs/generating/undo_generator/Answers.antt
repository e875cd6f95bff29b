use Rattle.std.specs.Prelude.{refl}
use Rattle.std.proofs.lemmas.Result.{IfOk-weaker}
use Rattle.parse_stacks.proofs.Tops.{has_one}
use Rattle.build_expressions.proofs.generating.undo_generator.Goals as goal

pub take-name-requires : goal.take-name-requires
take-name-requires c = has_one _ c.requires.2

pub take-domain-requires : goal.take-domain-requires
take-domain-requires c = has_one _ c.requires.3.2

pub returns : goal.returns
returns c = IfOk-weaker c.put.result _ _ (λ _ e. (c.take-name.result, _, c.take-name.ensures, (c.take-domain.result, _, c.take-domain.ensures, (c.make_generator-made.result, c.make_generator-made.ensures, (e, refl))))) c.put.ensures
