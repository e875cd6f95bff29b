use Rattle.std.specs.Prelude.{refl}
use Rattle.std.proofs.lemmas.Result.{IfOk-weaker}
use Rattle.parse_stacks.proofs.Tops.{has_one, of_ok}
use Rattle.build_expressions.proofs.operands.undo_unary.Goals as goal

pub take-place-requires : goal.take-place-requires
take-place-requires c = has_one _ c.requires.2

pub take-operand-requires : goal.take-operand-requires
take-operand-requires c = has_one _ c.requires.3.2

pub returns : goal.returns
returns c = IfOk-weaker c.put_made.result _ _ (λ _ e. (c.take-place.result, _, c.take-place.ensures, (c.take-operand.result, _, c.take-operand.ensures, (e.0, (of_ok _ e.1 c.make_unary-made.ensures), (e.2, refl))))) c.put_made.ensures
