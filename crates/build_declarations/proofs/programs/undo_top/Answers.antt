use Rattle.std.specs.Prelude.{refl}
use Rattle.std.proofs.lemmas.Result.{IfOk-weaker}
use Rattle.parse_stacks.proofs.Tops.{has_one}
use Rattle.build_declarations.proofs.programs.undo_top.Goals as goal

pub take-top-requires : goal.take-top-requires
take-top-requires c = has_one _ c.requires.2

pub put_first-requires : goal.put_first-requires
put_first-requires c = has_one _ c.requires.3.2

pub returns : goal.returns
returns c = IfOk-weaker c.put_first.result _ _ (λ _ e. (c.take-top.result, _, c.take-top.ensures, (e.0, _, e.2, (e.3, e.4, (e.5, refl))))) c.put_first.ensures
