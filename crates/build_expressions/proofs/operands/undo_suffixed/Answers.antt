use Rattle.std.specs.Prelude.{refl}
use Rattle.std.proofs.lemmas.Result.{IfOk-weaker}
use Rattle.parse_stacks.proofs.Tops.{has_one, of_ok}
use Rattle.build_expressions.proofs.operands.undo_suffixed.Goals as goal

pub take-primary-requires : goal.take-primary-requires
take-primary-requires c = has_one _ c.requires.2

pub take-suffixes-requires : goal.take-suffixes-requires
take-suffixes-requires c = has_one _ c.requires.3.2

pub returns : goal.returns
returns c = IfOk-weaker c.put_made.result _ _ (λ _ e. (c.take-primary.result, _, c.take-primary.ensures, (c.take-suffixes.result, _, c.take-suffixes.ensures, (e.0, (of_ok _ e.1 c.suffix-made.ensures), (e.2, refl))))) c.put_made.ensures
