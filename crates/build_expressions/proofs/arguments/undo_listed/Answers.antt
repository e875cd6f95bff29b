use Rattle.std.specs.Prelude.{refl}
use Rattle.std.proofs.lemmas.Result.{IfOk-weaker}
use Rattle.parse_stacks.proofs.Tops.{has_one}
use Rattle.build_expressions.proofs.arguments.undo_listed.Goals as goal

pub take-first-requires : goal.take-first-requires
take-first-requires c = has_one _ c.requires.2

pub put_first-requires : goal.put_first-requires
put_first-requires c = has_one _ c.requires.3.2

pub returns : goal.returns
returns c = IfOk-weaker c.put_first.result _ _ (λ _ e. (c.take-first.result, _, c.take-first.ensures, (e.0, _, e.2, (e.3, e.4, (e.5, refl))))) c.put_first.ensures
